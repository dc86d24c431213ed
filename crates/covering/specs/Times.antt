-- When the values of a netlist are there, under a family.
use Rattle.std.specs.Prelude.{ℕ, cond, List, [], ◌∷◌, map, length, ◌==◌}
use Rattle.family.specs.Family.{Delay, latest}
use Rattle.cells.specs.declared.cell.Cell.{Cell}
use Rattle.cells.specs.Netlist.{Netlist, leaves_of}

module _ {A : Type 0} (F : Delay A) where
  -- the arrival of a node, by the roots with their arrivals, the newest first; node 0 and the inputs have the start
  abbrev pub time_at : List (ℕ × A) → ℕ → A
  time_at [] v = F.start
  time_at (p ∷ ps) v = cond (p.0 == v) p.1 (time_at ps v)

  -- the arrival of a cell, by the latest arrival among its leaves and their number
  abbrev pub cell_time : List (ℕ × A) → Cell → A
  cell_time times c = F.result (latest F (map (time_at times) (leaves_of c))) (length (leaves_of c))

  -- the arrivals after the cells, in their order
  abbrev pub times_after : List (ℕ × A) → List Cell → List (ℕ × A)
  times_after times [] = times
  times_after times (c ∷ cs) = times_after ((c.root, cell_time times c) ∷ times) cs

  -- when the value of a node is there in a netlist
  unfoldable pub cover_arrival : Netlist → ℕ → A
  cover_arrival n v = time_at (times_after [] n.cells) v

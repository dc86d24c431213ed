-- What an entry says of a job after some calls, and what the definitions give for it.
use Rattle.std.specs.Prelude.{ℕ, Bool, List, map, reverse, get_or}
use Rattle.drawing.specs.Drawing.{Drawing}
use Rattle.cuts.specs.Cuts.{least_cuts}
use Rattle.family.specs.Family.{Delay}
use Rattle.family.specs.Supplied.{levels, pins}
use Rattle.choice.specs.Choice.{best, taken_cut}
use Rattle.cells.specs.declared.cell.Cell.{Cell}
use Rattle.cells.specs.Netlist.{Netlist, leaves_of}
use Rattle.covering.specs.Chosen.{chosen}
use Rattle.covering.specs.Times.{cover_arrival}
use Rattle.fitter.specs.Book.{Book, size}
use Rattle.fitter.specs.Calls.{Call, book_of_calls, kept_of_calls}
use Rattle.fitter.specs.Making.{made_below}

-- something said of a job; the family has the job's width, and is Levels where no other is named
pub data Figure : Type 0 where
  -- the drawing
  drawing_is : Drawing → Figure
  -- the list of a gate
  list_of : ℕ → List (List ℕ) → Figure
  -- the cut that a gate takes
  cut_taken : ℕ → List ℕ → Figure
  -- the cells of the chosen cover: root, leaves and table of each
  cells_are : List (ℕ × List ℕ × ℕ) → Figure
  -- the best arrival of a node under Levels
  best_levels : ℕ → ℕ → Figure
  -- the best arrival of a node under Pins
  best_pins : ℕ → ℕ × ℕ → Figure
  -- the arrival of a node in the chosen cover under Levels
  cover_levels : ℕ → ℕ → Figure
  -- the arrival of a node in the chosen cover under Pins
  cover_pins : ℕ → ℕ × ℕ → Figure
  -- how many lists the next map makes
  lists_made : ℕ → Figure

-- an entry: calls, the first of them first, and what is said of the job after them
pub record Entry : Type 0 where
  pub calls : List Call
  pub says : List Figure

-- the entry with these calls and figures
abbrev pub entry : List Call → List Figure → Entry
entry calls says = record { calls = calls; says = says }

-- a cell as an entry writes it: its root, its leaves and its table
abbrev pub shown : Cell → ℕ × List ℕ × ℕ
shown c = (c.root, leaves_of c, c.table)

module _ {A : Type 0} (F : Delay A) (b : Book) where
  -- the chosen cover of a book
  abbrev pub cover : Netlist
  cover = chosen F b.drawing b.width

  -- the best arrival of a node of a book, and its arrival in the chosen cover
  abbrev pub best_at : ℕ → A
  best_at v = get_or (best F b.drawing.nodes b.width) v F.start

  -- the arrival of a node in the chosen cover
  abbrev pub cover_at : ℕ → A
  cover_at v = cover_arrival F cover v

-- what the definitions give in place of what is said of the same node, by the book and the kept lists
abbrev pub given : Book → (ℕ → Bool) → Figure → Figure
given b held (drawing_is d) = drawing_is b.drawing
given b held (list_of v sets) = list_of v (least_cuts b.drawing.nodes b.width v)
given b held (cut_taken v s) = cut_taken v (taken_cut (levels b.width) b.drawing.nodes b.width v)
given b held (cells_are cells) = cells_are (map shown (cover (levels b.width) b).cells)
given b held (best_levels v r) = best_levels v (best_at (levels b.width) b v)
given b held (best_pins v r) = best_pins v (best_at (pins b.width) b v)
given b held (cover_levels v r) = cover_levels v (cover_at (levels b.width) b v)
given b held (cover_pins v r) = cover_pins v (cover_at (pins b.width) b v)
given b held (lists_made n) = lists_made (made_below b held (size b))

-- what the definitions give for an entry
abbrev pub worked : Entry → List Figure
worked e = let h = reverse e.calls in map (given (book_of_calls h) (kept_of_calls h)) e.says

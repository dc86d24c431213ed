-- A history with all seven calls.
use Rattle.std.specs.Prelude.{◌≡◌, ℕ, List, [], ◌∷◌, length, take}
use Rattle.family.specs.Family.{Delay}
use Rattle.cells.specs.Netlist.{Netlist}
use Rattle.fitter.specs.Book.{size}
use Rattle.fitter.specs.Calls.{Call, add_input, add_gate, add_output, retie_gate, set_width, load_text, map_by, book_of_calls, kept_of_calls}
use Rattle.fitter.specs.Making.{made_below}
use Rattle.fitter.specs.Taking.{arrival_table}

-- the calls before the last map, the latest first: by a family of width w and a table of n entries
abbrev pub walked : ℕ → ℕ → List ℕ → List Call
walked w n text =
    load_text text ∷ retie_gate 3 (record { left = 3; right = 5 }) ∷ map_by w n ∷ set_width 3 ∷ add_output 7
    ∷ add_gate (record { left = 2; right = 4 }) ∷ add_input ∷ add_input ∷ []

-- what an accepted map tells after a history of calls: how many cells the cover has, how many needed gates had no list kept,
-- and the arrivals of all nodes
pub record Tells {A : Type 0} (F : Delay A) (h : List Call) (p : ℕ × ℕ) (cover : Netlist) (table : List A) : Type 0 where
  pub cell_count : p.0 ≡ length cover.cells
  pub list_count : p.1 ≡ made_below (book_of_calls h) (kept_of_calls h) (size (book_of_calls h))
  pub arrivals : take (size (book_of_calls h)) table ≡ arrival_table F (book_of_calls h)

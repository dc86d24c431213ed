-- The book of calls: a drawing and a width, and what needed gates they have.
use Rattle.std.specs.Prelude.{ℕ, zero, suc, ◌+◌, Bool, cond, ◌&&◌, List, length, Ok, Err, Result, nat_lt}
use Rattle.drawing.specs.declared.refusal.Fault.{Fault}
use Rattle.drawing.specs.declared.refusal.Refusal.{Refusal}
use Rattle.drawing.specs.declared.refusal.Refusal.TheVariants.{BadWidth, Text}
use Rattle.drawing.specs.Drawing.{Drawing, new_drawing}
use Rattle.drawing.specs.Reach.{needed}
use Rattle.cuts.specs.Cuts.{least_cuts}
use Rattle.cuts.specs.Limits.{limit}
use Rattle.family.specs.Supplied.{is_width}
use Rattle.aiger.specs.Reads.{read}

-- what the calls lead to: a drawing and a width
pub record Book : Type 0 where
  pub drawing : Drawing
  pub width : ℕ

-- the book with this drawing and width
abbrev pub book : Drawing → ℕ → Book
book d k = record { drawing = d; width = k }

-- the book before any call: node 0 alone, no outputs, width 4
abbrev pub new_book : Book
new_book = book new_drawing 4

-- how many nodes the drawing has
abbrev pub size : Book → ℕ
size b = length b.drawing.nodes

-- node v of the drawing is a needed gate
abbrev pub needed_in : Book → ℕ → Bool
needed_in b v = needed b.drawing.nodes b.drawing.outputs v

-- node v has more least cuts, with at most as many leaves as the width, than a list holds
abbrev pub too_many : Book → ℕ → Bool
too_many b v = nat_lt (limit b.width) (length (least_cuts b.drawing.nodes b.width v))

-- a crowded gate: needed, with more least cuts than a list holds
abbrev pub crowded_at : Book → ℕ → Bool
crowded_at b v = needed_in b v && too_many b v

-- the first of the n numbers from v on that passes the test, or the number behind them
abbrev pub first_from : (ℕ → Bool) → ℕ → ℕ → ℕ
first_from p v zero = v
first_from p v (suc n) = let rest = first_from p (v + 1) n in cond (p v) v rest

-- how far map gets: the lowest crowded gate, or the number of nodes
abbrev pub stop_of : Book → ℕ
stop_of b = first_from (crowded_at b) 0 (size b)

-- what width answers: a width that a part has is accepted, any other refused
abbrev pub width_answer : ℕ → Result (Unit {0}) Refusal
width_answer k = cond (is_width k) (Ok tt) (Err BadWidth)

-- a text is accepted as the text of a drawing, or refused with its fault
abbrev pub loaded : Result Drawing Fault → Result (Unit {0}) Refusal
loaded (Ok d) = Ok tt
loaded (Err f) = Err (Text f)

-- what load answers to a text
abbrev pub load_answer : List ℕ → Result (Unit {0}) Refusal
load_answer t = loaded (read t)

-- What evaluate answers and writes.
use Rattle.std.specs.Prelude.{◌≡◌, ℕ, cond, ◌&&◌, List, ◌++◌, length, take, drop, position, is_ok, Some, None, Ok, Err, Option, Result, ◌==◌, nat_le, nat_lt, slice_index}
use Rattle.drawing.specs.declared.refusal.Refusal.{Refusal}
use Rattle.drawing.specs.declared.refusal.Refusal.TheVariants.{TooShort, BadBit}
use Rattle.drawing.specs.Drawing.{Drawing}
use Rattle.drawing.specs.Values.{output_values}
use Rattle.cells.specs.Netlist.{Netlist, look, answers}
use Rattle.cells.specs.Covers.{Covers}

-- the index of the first byte above 1
abbrev pub first_above : List ℕ → Option ℕ
first_above row = position (λ b. nat_lt 1 b) row

-- accepted, unless a byte of the row is above 1
abbrev pub unless_bad : Option ℕ → Result (Unit {0}) Refusal
unless_bad None = Ok tt
unless_bad (Some i) = Err (BadBit i)

-- refused: a row that is not as long as the inputs or a buffer shorter than the outputs; then the first byte above 1
abbrev pub evaluate_answer : Netlist → List ℕ → List ℕ → Result (Unit {0}) Refusal
evaluate_answer n row out =
    cond (length row == length n.inputs && nat_le (length n.outputs) (length out)) (unless_bad (first_above row)) (Err TooShort)

-- what the buffer holds then: one byte for each output, and what stood behind them; refused: what it held
abbrev pub evaluate_writes : Netlist → List ℕ → List ℕ → List ℕ
evaluate_writes n row out = cond (is_ok (evaluate_answer n row out)) (answers n row ++ drop (length n.outputs) out) out

-- an accepted row: whatever drawing the netlist covers, the bytes are the values of its outputs
abbrev pub Agrees : Netlist → List ℕ → Result (Unit {0}) Refusal → List ℕ → Type 0
Agrees n row r out = (d : Drawing) → Covers d n → r ≡ Ok tt → take (length n.outputs) out ≡ output_values d row

-- the list has the value of each name, in the place of that name
abbrev pub Holds : List ℕ → List (ℕ × ℕ) → Type 0
Holds values env = (name : ℕ) → slice_index values name ≡ look env name

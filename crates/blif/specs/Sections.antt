-- What a call for a section answers and writes.
use Rattle.std.specs.Prelude.{ℕ, cond, List, [], ◌++◌, length, drop, is_ok, Ok, Err, Result, nat_le, nat_lt, slice_index_or}
use Rattle.drawing.specs.declared.refusal.Refusal.{Refusal}
use Rattle.drawing.specs.declared.refusal.Refusal.TheVariants.{TooShort, NoSection}
use Rattle.cells.specs.Netlist.{Netlist}
use Rattle.blif.specs.Text.{texts}

-- how many sections the cell list has
abbrev pub section_count : Netlist → ℕ
section_count n = length (texts n)

-- the text of section i, counted from 0
abbrev pub section_text : Netlist → ℕ → List ℕ
section_text n i = slice_index_or (texts n) i []

-- refused: a section past the last; then a buffer shorter than the section
abbrev pub section_answer : Netlist → ℕ → List ℕ → Result ℕ Refusal
section_answer n i out =
    cond (nat_lt i (section_count n))
    (cond (nat_le (length (section_text n i)) (length out)) (Ok (length (section_text n i))) (Err TooShort)) (Err NoSection)

-- what the buffer holds then: the section, and what stood behind it; refused: what it held
abbrev pub section_writes : Netlist → ℕ → List ℕ → List ℕ
section_writes n i out = cond (is_ok (section_answer n i out)) (section_text n i ++ drop (length (section_text n i)) out) out

use Rattle.std.proofs.Common.{◌-◌, ◌%◌, eqb, sym, ◌∙◌, arith}
use Rattle.std.proofs.lemmas.Bool.{cond-false, ne_eqb}
use Rattle.cells.specs.Truth.{bit}
use Rattle.cells.proofs.Words.{bit_not}
use Rattle.cells.proofs.table.turn.Goals as goal

pub returns-else-literal-eq0 : goal.returns-else-literal-eq0
returns-else-literal-eq0 c = λ m h.
    bit_not 32 c.args.word m (omega arith) h
    ∙ sym (cond-false (eqb (c.args.literal % 2) 0) (bit c.args.word m) (1 - bit c.args.word m) (ne_eqb _ 0 c.if-literal-eq0.false))

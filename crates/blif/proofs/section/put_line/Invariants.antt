use Rattle.pen.specs.Wrote.{Wrote}
use Rattle.blif.specs.Text.{leaf_digits}
use Rattle.blif.proofs.section.put_line.Given as goal

abbrev pub invariant-loop-j : goal.invariant-loop-j
invariant-loop-j l = Wrote l.initial.pen (leaf_digits l.m l.j) l.pen

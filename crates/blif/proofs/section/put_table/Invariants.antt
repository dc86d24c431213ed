use Rattle.pen.specs.Wrote.{Wrote}
use Rattle.blif.proofs.Texts.{lines_to}
use Rattle.blif.proofs.section.put_table.Given as goal

abbrev pub invariant-loop-m : goal.invariant-loop-m
invariant-loop-m l = Wrote l.initial.pen (lines_to l.table l.count l.m) l.pen

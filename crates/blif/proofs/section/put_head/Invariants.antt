use Rattle.pen.specs.Wrote.{Wrote}
use Rattle.blif.specs.Text.{output_names}
use Rattle.blif.proofs.section.put_head.Given as goal

abbrev pub invariant-loop-k : goal.invariant-loop-k
invariant-loop-k l = Wrote l.initial.pen (output_names l.k) l.pen

use Rattle.std.proofs.Common.{◌≡◌, length}
use Rattle.drawing.specs.Tables.{drawing_of}
use Rattle.fitter.proofs.Dependents.{MarkedBelow}
use Rattle.fitter.proofs.above.dependents.Given as goal

abbrev pub invariant-loop-v : goal.invariant-loop-v
invariant-loop-v l = (length l.marks ≡ 256) × MarkedBelow (drawing_of l.table).nodes l.of l.v l.marks

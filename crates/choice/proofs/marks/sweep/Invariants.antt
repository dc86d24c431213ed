use Rattle.std.proofs.Common.{length}
use Rattle.drawing.specs.Tables.{drawing_of}
use Rattle.choice.proofs.Marking.{Marking}
use Rattle.choice.proofs.marks.sweep.Given as goal

-- each node from v on has been looked at
abbrev pub invariant-loop-v : goal.invariant-loop-v
invariant-loop-v g l = let d = drawing_of l.table in Marking (g.E.Edges.leads l.edges) (length d.nodes) d.outputs l.v l.marks

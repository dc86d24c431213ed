use Rattle.std.proofs.Common.{take}
use Rattle.pen.specs.Wrote.{Wrote}
use Rattle.blif.specs.Text.{node_names}
use Rattle.blif.proofs.section.put_nodes.Given as goal

abbrev pub invariant-loop-node : goal.invariant-loop-node
invariant-loop-node l =
    Wrote l.initial.pen (node_names (take l.node-index l.nodes)) l.pen

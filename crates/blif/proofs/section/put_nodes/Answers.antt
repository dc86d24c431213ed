use Rattle.std.proofs.Common.{◌∷◌, ◌++◌, take, ap, ◌∙◌, arith}
use Rattle.std.proofs.lemmas.List.{take_all}
use Rattle.blif.specs.Text.{node_name, node_names}
use Rattle.pen.proofs.Wrote.{wrote_then, wrote_is}
use Rattle.blif.proofs.Texts.{node_names_more}
use Rattle.blif.proofs.section.put_nodes.Goals as goal

pub loop-node-preserved : goal.loop-node-preserved
loop-node-preserved c =
    let name = ap (λ n. node_names (take c.loop-node.node-index c.args.nodes.now) ++ (32 ∷ node_name n)) c.from.ensures in
    wrote_is (wrote_then c.loop-node.invariant c.put_name.ensures) (name ∙ node_names_more c.args.nodes.now c.loop-node.node-index (omega arith))

pub returns : goal.returns
returns c = wrote_is c.loop-node.invariant (ap node_names (take_all c.loop-node.node-index c.args.nodes.now (omega arith)))

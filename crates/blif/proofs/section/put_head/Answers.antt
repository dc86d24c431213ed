use Rattle.std.proofs.Common.{◌≡◌, ap, arith}
use Rattle.blif.specs.Text.{output_names}
use Rattle.pen.proofs.Wrote.{wrote_then, wrote_is}
use Rattle.blif.proofs.Texts.{output_names_more}
use Rattle.blif.proofs.section.put_head.Goals as goal

pub loop-k-preserved : goal.loop-k-preserved
loop-k-preserved c = wrote_is (wrote_then c.loop-k.invariant c.put_name.ensures) (output_names_more c.loop-k.k)

pub returns : goal.returns
returns c =
    let k : c.loop-k.k ≡ c.args.outputs = omega arith in
    let names = wrote_is c.loop-k.invariant (ap output_names k) in
    wrote_then (wrote_then (wrote_then (wrote_then c.text.ensures c.put_nodes.ensures) c.text-2.ensures) names) c.text-3.ensures

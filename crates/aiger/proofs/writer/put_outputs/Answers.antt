use Rattle.std.proofs.Common.{[], ◌∷◌, ◌++◌, take, ap, ◌∙◌}
use Rattle.std.proofs.lemmas.List.{take_all}
use Rattle.std.specs.List.{flat_map}
use Rattle.aiger.specs.Text.{line_of, output_rows}
use Rattle.pen.proofs.Wrote.{wrote_then, wrote_is}
use Rattle.aiger.proofs.Writes.{outputs_more}
use Rattle.aiger.proofs.writer.put_outputs.Goals as goal

pub loop-literal-preserved : goal.loop-literal-preserved
loop-literal-preserved c =
    let k = c.loop-literal.literal-index in
    let line = ap (λ n. flat_map line_of (output_rows (take k c.args.outputs.now)) ++ line_of (n ∷ [])) c.from.ensures in
    wrote_is (wrote_then c.loop-literal.invariant c.put_line.ensures) (line ∙ outputs_more c.args.outputs.now k c.loop-literal-test.true)

pub returns : goal.returns
returns c =
    wrote_is c.loop-literal.invariant (ap (λ ls. flat_map line_of (output_rows ls)) (take_all c.loop-literal.literal-index c.args.outputs.now c.loop-literal-test.false))

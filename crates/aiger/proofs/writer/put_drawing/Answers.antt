use Rattle.std.proofs.Common.{◌∙◌}
use Rattle.drawing.specs.Drawing.{drawing}
use Rattle.aiger.specs.Text.{text}
use Rattle.pen.proofs.Wrote.{wrote_then, wrote_is}
use Rattle.aiger.proofs.Writes.{text_parts}
use Rattle.aiger.proofs.writer.put_drawing.Goals as goal

pub returns : goal.returns
returns c =
    let e = c.nodes-nodes.ensures in
    let f = c.outputs-outputs.ensures in
    wrote_is (wrote_then (wrote_then (wrote_then c.put_header.ensures c.put_rows.ensures) c.put_outputs.ensures) c.put_rows-2.ensures)
    (text_parts c.nodes-nodes.result.now c.outputs-outputs.result.now ∙ (λ i. text (drawing (e i) (f i))))

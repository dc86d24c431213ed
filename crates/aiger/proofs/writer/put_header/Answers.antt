use Rattle.std.proofs.Common.{◌≡◌, pred, [], ◌∷◌, ◌++◌, length, count_by, ◌∙◌, arith, rules}
use Rattle.drawing.specs.Drawing.{is_input, is_gate}
use Rattle.aiger.specs.Text.{word, line_of}
use Rattle.pen.proofs.Wrote.{wrote_then, wrote_is}
use Rattle.aiger.proofs.Writes.{inputs_counted, gates_counted}
use Rattle.aiger.proofs.writer.put_header.Goals as goal

pub returns : goal.returns
returns c =
    let ns = c.args.nodes.now in
    let last : c.saturating_sub-last.result ≡ pred (length ns) = omega arith in
    let inputs : c.count-inputs.result ≡ count_by is_input ns = search rules in
    let gates : c.count-gates.result ≡ count_by is_gate ns = search rules in
    let i = inputs ∙ inputs_counted 0 ns in
    let g = gates ∙ gates_counted 0 ns in
    wrote_is (wrote_then c.text.ensures c.put_line.ensures) (λ k. word ++ line_of (last k ∷ i k ∷ 0 ∷ length c.args.outputs.now ∷ g k ∷ []))

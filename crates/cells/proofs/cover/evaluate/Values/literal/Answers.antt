use Rattle.std.proofs.Common.{◌≡◌, get_or, sym, ap, ◌∙◌, arith}
use Rattle.std.proofs.lemmas.Nat.{and_mask}
use Rattle.drawing.specs.Drawing.{node_of}
use Rattle.drawing.specs.Values.{turned}
use Rattle.cells.specs.Truth.{bit}
use Rattle.cells.specs.Netlist.{plain}
use Rattle.cells.proofs.Words.{bit_first}
use Rattle.cells.proofs.cover.evaluate.Values.literal.Goals as goal

pub returns : goal.returns
returns c =
    let l = c.args.literal in
    let v = get_or c.args.self.now.bits (plain (node_of l)) 0 in
    let small = c.args.self.now.small (plain (node_of l)) in
    let own : bit v 0 ≡ v = bit_first v ∙ (omega arith) in
    and_mask c.turn.result 1 ∙ sym (bit_first c.turn.result) ∙ c.turn.ensures 0 (omega arith)
    ∙ ap (λ x. turned x l) (ap (λ x. bit x 0) c.of-value.ensures ∙ own)

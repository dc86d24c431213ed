use Rattle.std.proofs.Common.{◌≡◌, suc, ◌+◌, take, ◌∙◌, arith}
use Rattle.std.proofs.lemmas.List.{take-replicate}
use Rattle.drawing.specs.declared.node.Node.TheVariants.{Constant}
use Rattle.aiger.proofs.draft.Draft.new.Goals as goal

pub returns : goal.returns
returns c =
    let n = c.args.last in
    let size : n + 1 ≡ suc n = omega arith in
    let nodes = c.truncate.ensures.items ∙ (λ i. take (size i) (c.from-nodes.ensures.0 i)) ∙ take-replicate (suc n) 256 Constant (omega arith) in
    λ i. record { nodes = nodes i; outputs = c.new.ensures i; input = 0; gate = 0 }

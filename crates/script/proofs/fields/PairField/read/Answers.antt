use Rattle.script.proofs.fields.PairField.read.Goals as goal

pub returns-in_err-left : goal.returns-in_err-left
returns-in_err-left c = rw c.from_residual.ensures (λ p f e. c.in_err-left.ensures (p.left, p.right) f e)

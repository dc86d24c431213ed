use Rattle.std.proofs.Common.{◌≡◌, ◌+◌, ◌-◌, ◌++◌, length, take, drop, refl, sym, ◌∙◌, arith}
use Rattle.pen.proofs.Wrote.{over_there}
use Rattle.pen.proofs.Pen.text.Goals as goal

pub returns-then-end-self : goal.returns-then-end-self
returns-then-end-self c =
    let p = c.args.self.now.at in
    let out = c.args.self.now.out.now in
    let text = c.args.text.now in
    let end : c.saturating_add-end.result ≡ p + length text = omega arith in
    let many : c.saturating_add-end.result - p ≡ length text = omega arith in
    record { same = refl; laid = (λ i. (take p out ++ (c.copy_from_slice.ensures.after i ++ drop (many i) (drop p out)), end i)) ∙ sym (over_there out text p (omega arith) (omega arith)) }

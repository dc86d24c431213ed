use Rattle.std.proofs.Common.{◌≡◌, ◌+◌, ◌/◌, ◌^◌, eqb, [], ◌∷◌, ◌++◌, sym, ap, ◌∙◌, arith}
use Rattle.std.proofs.lemmas.Nat.{and_mask}
use Rattle.std.proofs.lemmas.Bool.{cond-false, ne_eqb}
use Rattle.blif.specs.Text.{leaf_digits}
use Rattle.pen.proofs.Wrote.{wrote_then, wrote_is}
use Rattle.blif.proofs.Texts.{digits_more}
use Rattle.blif.proofs.section.put_line.Goals as goal

pub loop-j-preserved : goal.loop-j-preserved
loop-j-preserved c =
    let m = c.args.m in
    let j = c.loop-j.j in
    wrote_is (wrote_then c.loop-j.invariant c.byte.ensures) (ap (λ x. leaf_digits m j ++ (48 + x) ∷ []) (and_mask (m / 2 ^ j) 1) ∙ digits_more m j)

pub returns : goal.returns
returns c =
    let n = c.args.count in
    let k : c.loop-j.j ≡ n = omega arith in
    wrote_is (wrote_then (wrote_is c.loop-j.invariant (ap (leaf_digits c.args.m) k)) c.text-2.ensures) (sym (cond-false (eqb n 0) _ _ (ne_eqb n 0 c.if-count-eq0.false)))

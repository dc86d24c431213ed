use Rattle.std.proofs.Common.{◌<◌, length, sym, ◌∙◌, arith, rules}
use Rattle.cuts.proofs.Inside.{rest_rises, longer_outside, lower_outside, both_behind, other_behind}
use Rattle.cuts.proofs.Merge.{first_rest}
use Rattle.cuts.proofs.cut.ops.subset.Goals as goal

pub returns-then-x-y : goal.returns-then-x-y
returns-then-x-y c =
    let a = c.loop-a.a.now in
    let b = c.loop-a.b.now in
    let r = c.loop-a.invariant.rising in
    let some : 0 < length a = search rules in
    let others : 0 < length b = search rules in
    sym (lower_outside a b r.0 r.1 _ _ (first_rest a some) _ _ (first_rest b others) c.if-x-y.true) ∙ c.loop-a.invariant.left

pub loop-a-preserved-then-x-y-2 : goal.loop-a-preserved-then-x-y-2
loop-a-preserved-then-x-y-2 c =
    let a = c.loop-a.a.now in
    let b = c.loop-a.b.now in
    let r = c.loop-a.invariant.rising in
    let some : 0 < length a = search rules in
    let others : 0 < length b = search rules in
    let e = first_rest a some in
    let f = first_rest b others in
    record {
      rising = (rest_rises a _ _ e r.0, rest_rises b _ _ f r.1);
      left = both_behind a b r.0 r.1 _ _ e _ _ f c.if-x-y-2.true ∙ c.loop-a.invariant.left;
    }

pub loop-a-preserved : goal.loop-a-preserved
loop-a-preserved c =
    let a = c.loop-a.a.now in
    let b = c.loop-a.b.now in
    let r = c.loop-a.invariant.rising in
    let some : 0 < length a = search rules in
    let others : 0 < length b = search rules in
    let e = first_rest a some in
    let f = first_rest b others in
    record {
      rising = (r.0, rest_rises b _ _ f r.1);
      left = other_behind a b r.0 r.1 _ _ e _ _ f (omega (arith, c.if-x-y.false, c.if-x-y-2.false)) ∙ c.loop-a.invariant.left;
    }

pub returns : goal.returns
returns c = sym (longer_outside c.loop-a.a.now c.loop-a.b.now c.loop-a.invariant.rising.0 c.loop-a.invariant.rising.1 (omega (arith, c.loop-a-test.false))) ∙ c.loop-a.invariant.left

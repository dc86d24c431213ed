use Rattle.std.proofs.Common.{◌≡◌, ◌++◌, take, sym, ap, ◌∙◌, arith}
use Rattle.std.proofs.lemmas.List.{append-nil}
use Rattle.drawing.specs.Sets.{rises, union}
use Rattle.drawing.proofs.SetLaws.{rises_union}
use Rattle.cuts.specs.Leaves.{leaves_of}
use Rattle.cuts.proofs.cut.Cut.join.Goals as goal

pub invariant_of-result : goal.invariant_of-result
invariant_of-result c =
    let s = c.args.self.now in
    let t = c.args.other.now in
    let l = c.loop-leaf in
    let joined = take l.len l.leaves in
    let all : joined ≡ union (leaves_of s) (leaves_of t) = sym (append-nil joined) ∙ ap (λ z. joined ++ z) (sym c.in_default.ensures) ∙ l.invariant.whole in
    record {
      room = l.invariant.room;
      few = omega (arith, l.invariant.few, c.requires);
      rising = ap (rises 0) all ∙ rises_union 0 (leaves_of s) (leaves_of t) s.rising t.rising;
    }

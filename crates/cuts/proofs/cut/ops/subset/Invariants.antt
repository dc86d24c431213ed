use Rattle.std.proofs.Common.{◌≡◌, true, length}
use Rattle.drawing.specs.Sets.{rises, sub}
use Rattle.cuts.proofs.cut.ops.subset.Given as goal

abbrev pub invariant-loop-a : goal.invariant-loop-a
invariant-loop-a l = record {
  rising : (rises 0 l.a ≡ true) × (rises 0 l.b ≡ true);
  left : sub l.a l.b ≡ sub l.leaves l.others;
}

abbrev pub decreases-loop-a : goal.decreases-loop-a
decreases-loop-a l = length l.b

use Rattle.std.proofs.Common.{◌≡◌, ◌+◌, ◌≤◌, true, ◌++◌, length, take}
use Rattle.drawing.specs.Sets.{rises, union}
use Rattle.drawing.specs.Drawing.{most_leaves}
use Rattle.cuts.specs.Leaves.{leaves_of}
use Rattle.cuts.proofs.cut.Cut.join.Given as goal

abbrev pub invariant-loop-leaf : goal.invariant-loop-leaf
invariant-loop-leaf l = record {
  rising : (rises 0 l.a ≡ true) × (rises 0 l.b ≡ true);
  few : l.len ≤ l.most;
  room : length l.leaves ≡ most_leaves;
  whole : take l.len l.leaves ++ union l.a l.b ≡ union (leaves_of l.self) (leaves_of l.other);
}

abbrev pub decreases-loop-leaf : goal.decreases-loop-leaf
decreases-loop-leaf l = length l.a + length l.b

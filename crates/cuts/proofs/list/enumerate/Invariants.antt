use Rattle.std.proofs.Common.{◌≡◌, ◌+◌, ◌*◌, ◌≤◌, leb, [], map, length, take}
use Rattle.arrayvec.specs.ArrayVec.{array_vec_len}
use Rattle.drawing.specs.Sets.{keep, union}
use Rattle.cuts.specs.Cuts.{joins}
use Rattle.cuts.specs.Antichain.{survivors}
use Rattle.cuts.specs.Leaves.{leaves_of, sets_of}
use Rattle.cuts.proofs.list.enumerate.Given as goal

abbrev pub invariant-loop-cut : goal.invariant-loop-cut
invariant-loop-cut l = record {
  within : array_vec_len l.rows ≤ l.cut-index * length l.right;
  noted : sets_of l.rows.items ≡ survivors [] (joins l.most (sets_of (take l.cut-index l.left)) (sets_of l.right));
}

abbrev pub invariant-loop-other : goal.invariant-loop-other
invariant-loop-other l = record {
  within : array_vec_len l.rows ≤ array_vec_len l.initial.rows + l.other-index;
  noted : sets_of l.rows.items ≡ survivors (sets_of l.initial.rows.items) (keep (λ s. leb (length s) l.most) (map (union (leaves_of l.cut)) (sets_of (take l.other-index l.right))));
}

-- What it says that stored cuts are the list of a gate.
use Rattle.std.specs.Prelude.{◌≡◌, ℕ, ◌<◌, ◌≤◌, true, List, length, Some, None, Option, slice_index}
use Rattle.std.specs.Borrow.{Bor}
use Rattle.arrayvec.specs.ArrayVec.{ArrayVec, array_vec_len}
use Rattle.drawing.specs.declared.node.Node.{Node}
use Rattle.drawing.specs.Drawing.{at, is_gate, fanins}
use Rattle.cuts.specs.declared.cut.Cut.{Cut}
use Rattle.cuts.specs.Cuts.{Alike, least_cuts}
use Rattle.cuts.specs.Leaves.{sets_of}
use Rattle.cuts.specs.Limits.{limit}

-- the rows are the least cuts of v with at most k leaves, in any order: the same sets, and as many, so each stands once
abbrev pub Lists : List Node → ℕ → ℕ → List Cut → Type 0
Lists nodes k v rows = Alike (sets_of rows) (least_cuts nodes k v) × (length rows ≡ length (least_cuts nodes k v))

-- the fanin of a gate's left literal
abbrev pub left_fanin : List Node → ℕ → ℕ
left_fanin nodes v = slice_index (fanins (at nodes v)) 0

-- the fanin of a gate's right literal
abbrev pub right_fanin : List Node → ℕ → ℕ
right_fanin nodes v = slice_index (fanins (at nodes v)) 1

-- the rows of a fanin are at hand: if it is a gate they are its list, within the limit; else they are not looked at
abbrev pub AtHand : List Node → ℕ → ℕ → List Cut → Type 0
AtHand nodes k f rows = is_gate (at nodes f) ≡ true → Lists nodes k f rows × (length rows ≤ limit k)

-- the answer of making the list of v: its rows, or that they are more than the limit
abbrev pub Made : List Node → ℕ → ℕ → Option (ArrayVec Cut) → Type 0
Made nodes k v (Some list) = (array_vec_len list ≤ limit k) × Lists nodes k v list.items
Made nodes k v None = limit k < length (least_cuts nodes k v)

-- the answer of making the list of v in rows: it is lent, or it is more than the limit
abbrev pub MadeIn : List Node → ℕ → ℕ → Option (Bor (List Cut)) → Type 0
MadeIn nodes k v (Some list) = (length list.now ≤ limit k) × Lists nodes k v list.now
MadeIn nodes k v None = limit k < length (least_cuts nodes k v)

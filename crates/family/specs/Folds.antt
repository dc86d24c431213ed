-- What holds of the latest arrival and of a cell's arrival under every family that keeps the laws.
use Rattle.std.specs.Prelude.{◌≡◌, ℕ, ◌≤◌, true, List, length, slice_index_or}
use Rattle.drawing.specs.Sets.{mem, sub}
use Rattle.family.specs.Family.{Delay, latest_among, cell_arrival}
use Rattle.drawing.specs.Drawing.{most_leaves}

module _ {A : Type 0} (F : Delay A) where
  -- one table is not later than another at these leaves
  abbrev pub Earlier : List A → List A → List ℕ → Type 0
  Earlier a b leaves = (u : ℕ) → mem u leaves ≡ true → F.not_later (slice_index_or a u F.start) (slice_index_or b u F.start) ≡ true

  -- no leaf is later than the latest
  abbrev pub LatestIsLast : Type 0
  LatestIsLast = (table : List A) (leaves : List ℕ) (u : ℕ) → mem u leaves ≡ true → F.not_later (slice_index_or table u F.start) (latest_among F table leaves) ≡ true

  -- by a table that is not later, the latest is not later
  abbrev pub LatestRises : Type 0
  LatestRises = (a b : List A) (leaves : List ℕ) → Earlier a b leaves → F.not_later (latest_among F a leaves) (latest_among F b leaves) ≡ true

  -- the latest of some of the leaves is not later than that of all
  abbrev pub PartNotLater : Type 0
  PartNotLater = (table : List A) (s t : List ℕ) → sub s t ≡ true → F.not_later (latest_among F table s) (latest_among F table t) ≡ true

  -- from one arrival, the result for more leaves is not earlier
  abbrev pub MoreNotEarlier : Type 0
  MoreNotEarlier = (r : A) (m n : ℕ) → m ≤ n → n ≤ most_leaves → F.not_later (F.result r m) (F.result r n) ≡ true

  -- a cell with no more leaves, all of them among the other's and not later, is not later
  abbrev pub CellNotLater : Type 0
  CellNotLater = (a b : List A) (s t : List ℕ) → length s ≤ length t → length t ≤ most_leaves → sub s t ≡ true → Earlier a b s → F.not_later (cell_arrival F a s) (cell_arrival F b t) ≡ true

-- What a part family tells, the five laws, and the arrival of a cell.
use Rattle.std.specs.Prelude.{◌≡◌, ℕ, suc, ◌<◌, ◌≤◌, Bool, true, cond, ◌⊎◌, List, [], ◌∷◌, map, length, slice_index_or}
use Rattle.drawing.specs.Drawing.{most_leaves}

-- what a family tells: its width, its start, whether one arrival is not later than another, and the arrival
-- of a cell's result from the latest arrival among the leaves and their number
pub record Delay (A : Type 0) : Type 0 where
  pub width : ℕ
  pub start : A
  pub not_later : A → A → Bool
  pub result : A → ℕ → A

-- the five laws
pub record Laws {A : Type 0} (F : Delay A) : Type 0 where
  -- of two arrivals one is not later than the other
  pub total : (r s : A) → (F.not_later r s ≡ true) ⊎ (F.not_later s r ≡ true)
  -- not later, and not later again
  pub trans : (r s t : A) → F.not_later r s ≡ true → F.not_later s t ≡ true → F.not_later r t ≡ true
  -- the start is not later than any arrival
  pub first : (r : A) → F.not_later F.start r ≡ true
  -- from an arrival that is not later, the result for each number of leaves is not later
  pub later : (r s : A) (n : ℕ) → n ≤ most_leaves → F.not_later r s ≡ true → F.not_later (F.result r n) (F.result s n) ≡ true
  -- from one arrival, the result for n leaves is not later than that for n + 1
  pub wider : (r : A) (n : ℕ) → n < most_leaves → F.not_later (F.result r n) (F.result r (suc n)) ≡ true

module _ {A : Type 0} (F : Delay A) where
  -- the later of two arrivals, the first where the second is not later
  abbrev pub later_of : A → A → A
  later_of r s = cond (F.not_later s r) r s

  -- the latest of an arrival and those behind it, the first of the latest where several are
  abbrev pub latest_from : A → List A → A
  latest_from best [] = best
  latest_from best (x ∷ xs) = latest_from (later_of best x) xs

  -- the latest of some arrivals, the first of the latest where several are, and the start where there are none
  abbrev pub latest : List A → A
  latest [] = F.start
  latest (x ∷ xs) = latest_from x xs

  -- the latest arrival among leaves, by the arrivals of the nodes
  abbrev pub latest_among : List A → List ℕ → A
  latest_among table leaves = latest (map (λ u. slice_index_or table u F.start) leaves)

  -- the arrival of a cell with these leaves, by the arrivals of the nodes
  abbrev pub cell_arrival : List A → List ℕ → A
  cell_arrival table leaves = F.result (latest_among table leaves) (length leaves)

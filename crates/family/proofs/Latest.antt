-- The laws of the latest arrival, for every lawful family.
use Rattle.std.proofs.Common.{◌≡◌, ℕ, ◌≤◌, true, false, List, [], ◌∷◌, map, length, get_or, refl, inl, inr, ⊎_elim, arith}
use native.Mathlib.Decide.{le_ind}
use Rattle.std.proofs.lemmas.Bool.{both_ways, cond_both}
use Rattle.drawing.specs.Sets.{mem, sub, In}
use Rattle.drawing.proofs.Members.{in_map, map_in, in_mem, mem_in}
use Rattle.drawing.proofs.SetLaws.{sub_says}
use Rattle.family.specs.Family.{Delay, Laws, later_of, latest_from, latest, latest_among}
use Rattle.drawing.specs.Drawing.{most_leaves}
use Rattle.family.specs.Folds.{Earlier, LatestIsLast, LatestRises, PartNotLater, MoreNotEarlier, CellNotLater}

module _ {A : Type 0} (F : Delay A) (L : Laws F) where
  pub self_not_later : (r : A) → F.not_later r r ≡ true
  self_not_later r = ⊎_elim (λ h. h) (λ h. h) (L.total r r)

  pub other_way : (r s : A) → F.not_later r s ≡ false → F.not_later s r ≡ true
  other_way r s h = ⊎_elim (λ e. absurd (both_ways _ h e)) (λ e. e) (L.total r s)

  -- the latest is not earlier than any, and not later than what all are not later than
  latest_from_over : (b : A) (xs : List A) → F.not_later b (latest_from F b xs) ≡ true
  latest_from_over b [] = self_not_later b
  latest_from_over b (x ∷ xs) =
      L.trans b _ _ (cond_both (F.not_later x b) b x (λ y. F.not_later b y ≡ true) (λ e. self_not_later b) (λ e. other_way x b e)) (latest_from_over (later_of F b x) xs)

  latest_from_in : (b : A) (xs : List A) (x : A) → In x xs → F.not_later x (latest_from F b xs) ≡ true
  latest_from_in b [] x m = elim m [ ]
  latest_from_in b (y ∷ ys) x (inl e) =
      rw (← e) (L.trans y _ _ (cond_both (F.not_later y b) b y (λ z. F.not_later y z ≡ true) (λ h. h) (λ h. self_not_later y)) (latest_from_over (later_of F b y) ys))
  latest_from_in b (y ∷ ys) x (inr m) = latest_from_in (later_of F b y) ys x m

  latest_from_under : (b : A) (xs : List A) (c : A) → F.not_later b c ≡ true → ((x : A) → In x xs → F.not_later x c ≡ true) → F.not_later (latest_from F b xs) c ≡ true
  latest_from_under b [] c h k = h
  latest_from_under b (x ∷ xs) c h k =
      latest_from_under (later_of F b x) xs c (cond_both (F.not_later x b) b x (λ y. F.not_later y c ≡ true) (λ e. h) (λ e. k x (inl refl))) (λ y m. k y (inr m))

  latest_in : (xs : List A) (x : A) → In x xs → F.not_later x (latest F xs) ≡ true
  latest_in [] x m = elim m [ ]
  latest_in (y ∷ ys) x (inl e) = rw (← e) (latest_from_over y ys)
  latest_in (y ∷ ys) x (inr m) = latest_from_in y ys x m

  latest_under : (xs : List A) (c : A) → ((x : A) → In x xs → F.not_later x c ≡ true) → F.not_later (latest F xs) c ≡ true
  latest_under [] c k = L.first c
  latest_under (y ∷ ys) c k = latest_from_under y ys c (k y (inl refl)) (λ x m. k x (inr m))

  pub latest_is_last : LatestIsLast F
  latest_is_last table leaves u m =
      let read = λ (w : ℕ). get_or table w F.start in
      latest_in (map read leaves) (read u) (in_map read u leaves (mem_in u leaves m))

  -- the latest of some leaves is not later than c if no leaf is
  pub among_under : (table : List A) (leaves : List ℕ) (c : A) → ((u : ℕ) → mem u leaves ≡ true → F.not_later (get_or table u F.start) c ≡ true) → F.not_later (latest_among F table leaves) c ≡ true
  among_under table leaves c h =
      let read = λ (w : ℕ). get_or table w F.start in
      latest_under (map read leaves) c (λ x m. let r = map_in read x leaves m in rw (← r.2) (h r.0 (in_mem r.0 leaves r.1)))

  -- some of the leaves, by a table that is not later
  latest_le : (a b : List A) (s t : List ℕ) → sub s t ≡ true → Earlier F a b s → F.not_later (latest_among F a s) (latest_among F b t) ≡ true
  latest_le a b s t h k = among_under a s _ (λ u m. L.trans _ _ _ (k u m) (latest_is_last b t u (sub_says s t h u m)))

  pub latest_rises : LatestRises F
  latest_rises a b leaves k = among_under a leaves _ (λ u m. L.trans _ _ _ (k u m) (latest_is_last b leaves u m))

  pub part_not_later : PartNotLater F
  part_not_later table s t h = latest_le table table s t h (λ u m. self_not_later _)

  pub more_not_earlier : MoreNotEarlier F
  more_not_earlier r m n h l =
      le_ind (λ k. k ≤ most_leaves → F.not_later (F.result r m) (F.result r k) ≡ true) (λ _. self_not_later _) (λ k g ih b. L.trans _ _ _ (ih (omega arith)) (L.wider r k (omega arith))) n h l

  pub cell_not_later : CellNotLater F
  cell_not_later a b s t l few h k =
      L.trans _ _ _ (L.later _ _ (length s) (omega arith) (latest_le a b s t h k)) (more_not_earlier _ (length s) (length t) l few)

-- The cut that is taken does not hang on the list's order.
use Rattle.std.proofs.Common.{◌≡◌, ℕ, ◌<◌, Bool, true, false, cond, ◌&&◌, ◌||◌, eqb, ltb, List, [], ◌∷◌, length, refl, subst, inl, inr, ⊎_elim, arith}
use Rattle.std.proofs.lemmas.Bool.{and_parts, or_cases, or_parts, or_from, both_ways, cases_Bool, cond_both, not-true, not-false, not_from_true, ltb-false, cases_order, and_cases, and_left, and_right}
use Rattle.std.proofs.lemmas.Bool.Decides.{nat_tests}
use Rattle.drawing.specs.Sets.{In}
use Rattle.family.specs.Family.{Delay, Laws, cell_arrival}
use Rattle.choice.specs.Choice.{lexi, smaller, rather, taken_from, taken}

head_equal : (x y : ℕ) (p q : Bool) → (ltb x y || (eqb x y && p)) ≡ false → (ltb y x || (eqb y x && q)) ≡ false → (x ≡ y) × (p ≡ false) × (q ≡ false)
head_equal x y p q h k = grind (arith, nat_tests)

lexi_same : (s t : List ℕ) → length s ≡ length t → lexi s t ≡ false → lexi t s ≡ false → s ≡ t
lexi_same [] [] l h k = refl
lexi_same [] (y ∷ ys) l h k = absurd (omega arith)
lexi_same (x ∷ xs) [] l h k = absurd (omega arith)
lexi_same (x ∷ xs) (y ∷ ys) l h k =
    let r = head_equal x y (lexi xs ys) (lexi ys xs) h k in
    let e = lexi_same xs ys (omega arith) r.1 r.2 in
    let f = r.0 in
    cc

head_trans : (x y z : ℕ) (p q r : Bool) → (ltb y x || (eqb y x && p)) ≡ false → (ltb z y || (eqb z y && q)) ≡ false → (p ≡ false → q ≡ false → r ≡ false) → (ltb z x || (eqb z x && r)) ≡ false
head_trans x y z p q r h k f = grind (arith, nat_tests)

lexi_trans : (a b c : List ℕ) → length a ≡ length b → length b ≡ length c → lexi b a ≡ false → lexi c b ≡ false → lexi c a ≡ false
lexi_trans [] b c l m h k = refl
lexi_trans (x ∷ xs) [] c l m h k = absurd (omega arith)
lexi_trans (x ∷ xs) (y ∷ ys) [] l m h k = absurd (omega arith)
lexi_trans (x ∷ xs) (y ∷ ys) (z ∷ zs) l m h k =
    head_trans x y z (lexi ys xs) (lexi zs ys) (lexi zs xs) h k (λ p q. lexi_trans xs ys zs (omega arith) (omega arith) p q)

smaller_same : (s t : List ℕ) → smaller s t ≡ false → smaller t s ≡ false → s ≡ t
smaller_same s t h k =
    let r = head_equal (length s) (length t) (lexi s t) (lexi t s) h k in
    lexi_same s t r.0 r.1 r.2

smaller_trans : (a b c : List ℕ) → smaller b a ≡ false → smaller c b ≡ false → smaller c a ≡ false
smaller_trans a b c h k =
    let p = or_parts (ltb (length b) (length a)) _ h in
    let q = or_parts (ltb (length c) (length b)) _ k in
    let la = ltb-false (length b) (length a) p.0 in
    let lb = ltb-false (length c) (length b) q.0 in
    ⊎_elim
    (λ (e : length c ≡ length a).
    let x : length a ≡ length b = omega arith in
    let y : length b ≡ length c = omega arith in
    head_trans (length a) (length b) (length c) (lexi b a) (lexi c b) (lexi c a) h k (λ u v. lexi_trans a b c x y u v))
    (λ o. let ne : length a < length c = ⊎_elim (λ (g : length c < length a). absurd (omega arith)) (λ g. g) o in grind (arith, nat_tests))
    (cases_order (length c) (length a))

head_asym : (x y : ℕ) (p q : Bool) → (p ≡ true → q ≡ false) → (ltb x y || (eqb x y && p)) ≡ true → (ltb y x || (eqb y x && q)) ≡ false
head_asym x y p q f h = grind (arith, nat_tests)

lexi_asym : (s t : List ℕ) → lexi s t ≡ true → lexi t s ≡ false
lexi_asym s [] h = absurd (both_ways false refl h)
lexi_asym [] (y ∷ ys) h = refl
lexi_asym (x ∷ xs) (y ∷ ys) h = head_asym x y (lexi xs ys) (lexi ys xs) (λ e. lexi_asym xs ys e) h

smaller_asym : (s t : List ℕ) → smaller s t ≡ true → smaller t s ≡ false
smaller_asym s t h = head_asym (length s) (length t) (lexi s t) (lexi t s) (lexi_asym s t) h

smaller_irr : (s : List ℕ) → smaller s s ≡ false
smaller_irr s = ⊎_elim (λ e. smaller_asym s s e) (λ e. e) (cases_Bool (smaller s s))

module _ {A : Type 0} (F : Delay A) (L : Laws F) (tab : List A) where
  -- s is as good as t
  abbrev Good : List ℕ → List ℕ → Type 0
  Good s t = rather F tab t s ≡ false

  good_parts : (s t : List ℕ) → Good s t → (F.not_later (cell_arrival F tab s) (cell_arrival F tab t) ≡ true) × (F.not_later (cell_arrival F tab t) (cell_arrival F tab s) ≡ true → smaller t s ≡ false)
  good_parts s t h =
      let p = or_parts _ _ h in
      (not-false _ p.0, λ e. ⊎_elim (λ x. absurd (both_ways _ x e)) (λ x. x) (and_cases _ _ p.1))

  parts_good : (s t : List ℕ) → F.not_later (cell_arrival F tab s) (cell_arrival F tab t) ≡ true → (F.not_later (cell_arrival F tab t) (cell_arrival F tab s) ≡ true → smaller t s ≡ false) → Good s t
  parts_good s t h k =
      or_from _ _ (not_from_true _ h) (⊎_elim (λ e. and_right _ _ (k e)) (λ e. and_left _ _ e) (cases_Bool (F.not_later (cell_arrival F tab t) (cell_arrival F tab s))))

  good_trans : (a b c : List ℕ) → Good a b → Good b c → Good a c
  good_trans a b c h k =
      let p = good_parts a b h in
      let q = good_parts b c k in
      parts_good a c (L.trans _ _ _ p.0 q.0) (λ e. smaller_trans a b c (p.1 (L.trans _ _ _ q.0 e)) (q.1 (L.trans _ _ _ e p.0)))

  good_same : (s t : List ℕ) → Good s t → Good t s → s ≡ t
  good_same s t h k =
      let p = good_parts s t h in
      let q = good_parts t s k in
      smaller_same s t (q.1 p.0) (p.1 q.0)

  good_refl : (s : List ℕ) → Good s s
  good_refl s = parts_good s s (⊎_elim (λ h. h) (λ h. h) (L.total _ _)) (λ _. smaller_irr s)

  better_good : (t s : List ℕ) → rather F tab t s ≡ true → Good t s
  better_good t s h =
      ⊎_elim
      (λ e. let f = not-true _ e in parts_good t s (⊎_elim (λ x. absurd (both_ways _ f x)) (λ x. x) (L.total (cell_arrival F tab s) (cell_arrival F tab t))) (λ x. absurd (both_ways _ f x)))
      (λ e. let p = and_parts (F.not_later (cell_arrival F tab t) (cell_arrival F tab s)) _ e in parts_good t s p.0 (λ _. smaller_asym t s p.1))
      (or_cases _ _ h)

  taken_from_good : (s : List ℕ) (ts : List (List ℕ)) → Good (taken_from F tab s ts) s × ((t : List ℕ) → In t ts → Good (taken_from F tab s ts) t)
  taken_from_good s [] = (good_refl s, λ t m. absurd m)
  taken_from_good s (u ∷ us) =
      let w = cond (rather F tab u s) u s in
      let r = taken_from_good w us in
      let a : Good w s = cond_both (rather F tab u s) u s (λ z. Good z s) (λ e. better_good u s e) (λ e. good_refl s) in
      let b : Good w u = cond_both (rather F tab u s) u s (λ z. Good z u) (λ e. good_refl u) (λ e. e) in
      (good_trans (taken_from F tab w us) w s r.0 a, λ t m. ⊎_elim (λ (e : u ≡ t). subst (Good (taken_from F tab w us)) e (good_trans (taken_from F tab w us) w u r.0 b)) (λ n. r.1 t n) m)

  taken_from_one : (s : List ℕ) (ts : List (List ℕ)) → In (taken_from F tab s ts) (s ∷ ts)
  taken_from_one s [] = inl refl
  taken_from_one s (u ∷ us) =
      ⊎_elim
      (λ (e : cond (rather F tab u s) u s ≡ taken_from F tab (cond (rather F tab u s) u s) us).
      subst (λ z. In z (s ∷ u ∷ us)) e (cond_both (rather F tab u s) u s (λ z. In z (s ∷ u ∷ us)) (λ _. inr (inl refl)) (λ _. inl refl)))
      (λ m. inr (inr m))
      (taken_from_one (cond (rather F tab u s) u s) us)

  pub taken_in : (l : List (List ℕ)) → 0 < length l → In (taken F tab l) l
  taken_in [] h = absurd (omega arith)
  taken_in (s ∷ ss) h = taken_from_one s ss

  pub taken_good : (l : List (List ℕ)) (t : List ℕ) → In t l → rather F tab t (taken F tab l) ≡ false
  taken_good [] t m = elim m [ ]
  taken_good (s ∷ ss) t (inl e) = rw (← e) (taken_from_good s ss).0
  taken_good (s ∷ ss) t (inr m) = (taken_from_good s ss).1 t m

  -- two lists with the same members
  pub taken_same : (l m : List (List ℕ)) → 0 < length l → 0 < length m → ((s : List ℕ) → In s l → In s m) → ((s : List ℕ) → In s m → In s l) → taken F tab l ≡ taken F tab m
  taken_same l m a b h k =
      good_same _ _ (taken_good l _ (k _ (taken_in m b))) (taken_good m _ (h _ (taken_in l a)))

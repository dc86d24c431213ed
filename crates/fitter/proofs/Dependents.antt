-- Marking what depends on a node, by rising number.
use Rattle.std.proofs.Common.{◌≡◌, ℕ, zero, suc, ◌+◌, ◌<◌, ◌≤◌, Bool, true, false, ◌&&◌, ◌||◌, eqb, ltb, ◌≢◌, List, length, get_or, set, replicate, sym, refl, ap, ◌∙◌, ⊎_elim, arith}
use lib.ListN.{length-replicate}
use Rattle.std.proofs.lemmas.List.{get_or-set_same, get_or-set_other}
use Rattle.std.proofs.lemmas.Bool.{cases_Bool, cases_eq, eq-eqb, ne_eqb, lt-ltb, le-ltb}
use Rattle.std.proofs.lemmas.Bool.Decides.{nat_tests}
use Rattle.drawing.specs.declared.node.Node.{Node}
use Rattle.drawing.specs.Drawing.{at, fanins, sound}
use Rattle.drawing.specs.Reach.{depends}
use Rattle.drawing.specs.Sets.{some, below}
use Rattle.drawing.proofs.Members.{some_same, in_every}
use Rattle.drawing.proofs.Sound.{fanins_below_lem}
use Rattle.drawing.proofs.ReachLaws.{reach_is, reach_range}

-- one mark written, or left
pub mark_at : (marks : List Bool) (v : ℕ) (new : List Bool) (b : Bool) → v < length marks → ((b ≡ true) → new ≡ set marks v true) → ((b ≡ false) → new ≡ marks) → (u : ℕ) → get_or new u false ≡ (get_or marks u false || (eqb u v && b))
mark_at marks v new b l yes' no' u =
    ⊎_elim
    (λ (h : b ≡ true). ap (λ z. get_or z u false) (yes' h) ∙ written u ∙ ap (λ z. get_or marks u false || (eqb u v && z)) (sym h))
    (λ (h : b ≡ false). ap (λ z. get_or z u false) (no' h) ∙ left (get_or marks u false) (eqb u v) ∙ ap (λ z. get_or marks u false || (eqb u v && z)) (sym h))
    (cases_Bool b)
  where
    left : (a e : Bool) → a ≡ (a || (e && false))
    left a e = grind (arith, nat_tests)

    here : (a e : Bool) → e ≡ true → true ≡ (a || (e && true))
    here a e h = grind (arith, nat_tests)

    there : (a e : Bool) → e ≡ false → a ≡ (a || (e && true))
    there a e h = grind (arith, nat_tests)

    written : (u : ℕ) → get_or (set marks v true) u false ≡ (get_or marks u false || (eqb u v && true))
    written u = ⊎_elim
        (λ (e : u ≡ v). ap (λ z. get_or (set marks v true) z false) e ∙ get_or-set_same marks v true false l ∙ here (get_or marks u false) (eqb u v) (eq-eqb u v e))
        (λ (e : u ≢ v). get_or-set_other marks v u true false e ∙ there (get_or marks u false) (eqb u v) (ne_eqb u v e))
        (cases_eq u v)

-- below v the marks are those of g and of what depends on it
abbrev pub MarkedBelow : List Node → ℕ → ℕ → List Bool → Type 0
MarkedBelow nodes g v marks = (u : ℕ) → get_or marks u false ≡ (eqb u g || (ltb u v && depends nodes g u))

module _ (nodes : List Node) (d : sound nodes ≡ true) (g : ℕ) where
  pub marked_start : (marks : List Bool) → ((u : ℕ) → get_or marks u false ≡ eqb u g) → MarkedBelow nodes g 0 marks
  marked_start marks h u = h u ∙ none (eqb u g) (ltb u 0) (depends nodes g u) (le-ltb u 0 (omega arith))
    where
      none : (a b c : Bool) → b ≡ false → a ≡ (a || (b && c))
      none a b c e = grind (arith, nat_tests)

  pub fanins_within : (v n : ℕ) → v < length nodes → v ≤ n → below n (fanins (at nodes v)) ≡ true
  fanins_within v n l b = in_every (λ u. ltb u n) (fanins (at nodes v)) (λ f m. lt-ltb f n (omega (arith, fanins_below_lem nodes v f d l m)))

  -- a node depends on g if a fanin is g or depends on it
  depends_is : (v : ℕ) (marks : List Bool) → v < length nodes → MarkedBelow nodes g v marks → some (λ f. get_or marks f false) (fanins (at nodes v)) ≡ depends nodes g v
  depends_is v marks l h =
      some_same (λ f. get_or marks f false) (λ f. eqb f g || depends nodes g f) (fanins (at nodes v))
      (λ f m. h f ∙ ap (λ z. eqb f g || (z && depends nodes g f)) (lt-ltb f v (fanins_below_lem nodes v f d l m)))
      ∙ sym (reach_is (λ w. fanins (at nodes w)) (length nodes) (λ w f b m. fanins_below_lem nodes w f d b m) g v l)

  pub marked_step : (v : ℕ) (marks new : List Bool) (b : Bool) → v < length nodes → v < length marks → MarkedBelow nodes g v marks → b ≡ some (λ f. get_or marks f false) (fanins (at nodes v)) → ((b ≡ true) → new ≡ set marks v true) → ((b ≡ false) → new ≡ marks) → MarkedBelow nodes g (v + 1) new
  marked_step v marks new b l room h is yes' no' u =
      mark_at marks v new b room yes' no' u ∙ ap (λ z. z || (eqb u v && b)) (h u)
      ∙ next (eqb u g) (ltb u v) (depends nodes g u) (eqb u v) b (ltb u (v + 1)) (more u v)
      (λ e. is ∙ depends_is v marks l h ∙ ap (depends nodes g) (sym (eqb_is u v e)))
    where
      more : (u v : ℕ) → ltb u (v + 1) ≡ (ltb u v || eqb u v)
      more u v = grind (arith, nat_tests)

      eqb_is : (u v : ℕ) → eqb u v ≡ true → u ≡ v
      eqb_is u v e = grind (arith, nat_tests)

      next : (a x c y b z : Bool) → z ≡ (x || y) → (y ≡ true → b ≡ c) → ((a || (x && c)) || (y && b)) ≡ (a || (z && c))
      next a x c true b z e f = let w = f refl in grind (arith, nat_tests)
      next a x c false b z e f = grind (arith, nat_tests)

  pub marked_done : (v : ℕ) (marks : List Bool) → length nodes ≤ v → MarkedBelow nodes g v marks → (u : ℕ) → get_or marks u false ≡ (eqb u g || depends nodes g u)
  marked_done v marks l h u =
      h u ∙ ap (λ z. eqb u g || z)
      (⊎_elim
      (λ (e : depends nodes g u ≡ true). ap (λ z. z && depends nodes g u) (lt-ltb u v (omega (arith, reach_range (λ w. fanins (at nodes w)) (length nodes) g u e))))
      (λ (e : depends nodes g u ≡ false). and_none (ltb u v) (depends nodes g u) e)
      (cases_Bool (depends nodes g u)))
    where
      and_none : (a b : Bool) → b ≡ false → (a && b) ≡ b
      and_none a b e = grind (arith, nat_tests)

-- one mark alone
pub one_mark : (n g u : ℕ) → g < n → get_or (set (replicate n false) g true) u false ≡ eqb u g
one_mark n g u l =
    ⊎_elim
    (λ (e : u ≡ g). ap (λ z. get_or (set (replicate n false) g true) z false) e ∙ get_or-set_same (replicate n false) g true false (omega (arith, length-replicate n false)) ∙ sym (eq-eqb u g e))
    (λ (e : u ≢ g). get_or-set_other (replicate n false) g u true false e ∙ no_mark n u ∙ sym (ne_eqb u g e))
    (cases_eq u g)
  where
    no_mark : (n u : ℕ) → get_or (replicate n false) u false ≡ false
    no_mark zero u = refl
    no_mark (suc n) zero = refl
    no_mark (suc n) (suc u) = no_mark n u

-- Whether one rising set lies inside another, told from the front: what is left of both gives the answer.
use Rattle.std.proofs.Common.{◌≡◌, ℕ, ◌<◌, true, false, List, ◌∷◌, length, sym, ◌∙◌, ap, ⊎_elim, arith}
use Rattle.std.proofs.lemmas.Bool.{or_left, or_right, eq-eqb}
use Rattle.std.proofs.lemmas.Bool.Decides.{same_from_decides}
use Rattle.drawing.specs.Sets.{sub, rises}
use Rattle.drawing.proofs.Members.{false_by}
use Rattle.drawing.proofs.SetLaws.{Sub, mem_head, mem_cases, sub_says, says_sub, head_first, sub_tails, sub_skip, part_length, rises_tail, rises_weaker}

sub_same : (s t s' t' : List ℕ) → (Sub s t → Sub s' t') → (Sub s' t' → Sub s t) → sub s t ≡ sub s' t'
sub_same s t s' t' h k = same_from_decides {P = Sub s t} _ _ (sub_says s t, says_sub s t) ((λ e. k (sub_says s' t' e)), (λ f. says_sub s' t' (h f)))

not_sub : (s t : List ℕ) → (Sub s t → ⊥) → sub s t ≡ false
not_sub s t h = false_by (sub s t) (λ e. h (sub_says s t e))

pub rest_rises : (s : List ℕ) (x : ℕ) (xs : List ℕ) → s ≡ x ∷ xs → rises 0 s ≡ true → rises 0 xs ≡ true
rest_rises s x xs e a = rises_weaker 0 x xs (omega arith) (rises_tail 0 x xs (rw e at a))

module _ (s t : List ℕ) (a : rises 0 s ≡ true) (b : rises 0 t ≡ true) where
  -- the longer of two does not lie in the other
  pub longer_outside : length t < length s → sub s t ≡ false
  longer_outside l = not_sub s t (λ h. omega (arith, part_length 0 0 s t a b h))

  -- the first of each, and what is behind it
  module _ (x : ℕ) (xs : List ℕ) (e : s ≡ x ∷ xs) (y : ℕ) (ys : List ℕ) (f : t ≡ y ∷ ys) where
    pub lower_outside : x < y → sub s t ≡ false
    lower_outside l = ap (λ z. sub z t) e ∙ ap (sub (x ∷ xs)) f ∙ not_sub (x ∷ xs) (y ∷ ys) (λ h. omega (arith, l, head_first 0 y ys x (rw f at b) (h x (mem_head x xs))))

    pub both_behind : x ≡ y → sub xs ys ≡ sub s t
    both_behind q =
        sym (ap (λ z. sub z t) e ∙ ap (sub (x ∷ xs)) (f ∙ ap (λ z. z ∷ ys) (sym q))
        ∙ sub_same (x ∷ xs) (x ∷ ys) xs ys (sub_tails 0 x xs ys (rw e at a))
        (λ h u m. ⊎_elim (λ (i : u ≡ x). or_left _ _ (eq-eqb u x i)) (λ i. or_right _ _ (h u i)) (mem_cases u x xs m)))

    pub other_behind : y < x → sub s ys ≡ sub s t
    other_behind l =
        ap (λ z. sub z ys) e
        ∙ sym (ap (λ z. sub z t) e ∙ ap (sub (x ∷ xs)) f
        ∙ sub_same (x ∷ xs) (y ∷ ys) (x ∷ xs) ys (sub_skip 0 x y xs ys (rw e at a) l) (λ h u m. or_right _ _ (h u m)))

-- Rows that are a list: as many as there are least cuts, so each stands once, and none lies inside another.
use Rattle.std.proofs.Common.{◌≡◌, ℕ, ◌≤◌, true, not, ◌&&◌, List, [], ◌∷◌, length, sym, refl, subst, inl, inr, ⊎_elim, arith}
use Rattle.std.proofs.lemmas.List.{length-map}
use Rattle.std.proofs.lemmas.Bool.{and_from, both_ways, cases_Bool, not-true, not_from_false}
use Rattle.drawing.specs.Sets.{sub, same, keep, In}
use Rattle.drawing.proofs.Counts.{Once, once_length, once_keep}
use Rattle.drawing.proofs.Members.{in_every, keep_in, in_keep, same_is, same_refl}
use Rattle.drawing.proofs.SetLaws.{Sub, sub_says}
use Rattle.cuts.specs.Antichain.{apart}
use Rattle.cuts.specs.Claims.{ListsApart}
use Rattle.cuts.specs.Cuts.{least_cuts}
use Rattle.cuts.specs.Leaves.{leaves_of, sets_of}
use Rattle.cuts.proofs.LeastCuts.{list_in, once_list}
use Rattle.cuts.proofs.Survive.{alike_in}

-- a list that has all of ys, each once, and is no longer
pub once_from : (xs ys : List (List ℕ)) → Once ys → ((a : List ℕ) → In a ys → In a xs) → length xs ≤ length ys → Once xs
once_from [] ys o h l = tt
once_from (x ∷ xs) ys o h l =
    ((λ m. omega (arith, once_length ys xs o (λ a i. ⊎_elim (λ e. subst (λ z. In z xs) e m) (λ j. j) (h a i)))), once_from xs others (once_keep (λ a. not (same a x)) ys o) below fewer)
  where
    others : List (List ℕ)
    others = keep (λ a. not (same a x)) ys

    below : (a : List ℕ) → In a others → In a xs
    below a i =
        let r = keep_in (λ a. not (same a x)) a ys i in
        ⊎_elim (λ (e : x ≡ a). absurd (both_ways _ (not-true _ r.1) (subst (λ z. same a z ≡ true) (sym e) (same_refl a)))) (λ j. j) (h a r.0)

    split : (a : List ℕ) → In a ys → In a (x ∷ others)
    split a i = ⊎_elim (λ e. inl (sym (same_is a x e))) (λ e. inr (in_keep (λ a. not (same a x)) a ys i (not_from_false _ e))) (cases_Bool (same a x))

    fewer : length xs ≤ length others
    fewer = omega (arith, once_length ys (x ∷ others) o split)

pub apart_from : (xs : List (List ℕ)) → Once xs → ((a b : List ℕ) → In a xs → In b xs → Sub a b → a ≡ b) → apart xs ≡ true
apart_from [] o h = refl
apart_from (x ∷ xs) o h =
    let off : (a b : List ℕ) → (Sub a b → ⊥) → not (sub a b) ≡ true = λ a b k. not_from_false _ (⊎_elim (λ e. absurd (k (sub_says a b e))) (λ e. e) (cases_Bool (sub a b))) in
    and_from _ _
    (in_every (λ y. not (sub x y) && not (sub y x)) xs (λ y m. and_from _ _
    (off x y (λ k. o.0 (subst (λ z. In z xs) (sym (h x y (inl refl) (inr m) k)) m)))
    (off y x (λ k. o.0 (subst (λ z. In z xs) (h y x (inr m) (inl refl) k) m)))))
    (apart_from xs o.1 (λ a b i j k. h a b (inr i) (inr j) k))

pub lists_apart : ListsApart
lists_apart nodes k v rows l =
    let sets = sets_of rows in
    let cuts = least_cuts nodes k v in
    let listed = alike_in sets cuts l.0 in
    apart_from sets (once_from sets cuts (once_list nodes k v) (alike_in cuts sets (λ s. sym (l.0 s))) (omega (arith, length-map rows leaves_of, l.1)))
    (λ a b i j h. (list_in nodes k v b (listed b j)).0.smallest a (list_in nodes k v a (listed a i)).0.is_cut h)

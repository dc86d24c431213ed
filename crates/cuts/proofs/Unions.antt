-- The loops that make a list: over the choices of one literal's node, and of the other.
use Rattle.std.proofs.Common.{◌≡◌, ℕ, ◌+◌, ◌<◌, Bool, true, false, cond, List, [], ◌∷◌, ◌++◌, map, length, get_or, take, sym, refl, ap, ◌∙◌}
use Rattle.std.proofs.lemmas.List.{take_more, map-append, append-nil, append_assoc}
use Rattle.std.proofs.lemmas.List.Elements.{filter-append}
use Rattle.drawing.specs.Sets.{keep, union}
use Rattle.cuts.specs.Cuts.{unions}
use Rattle.cuts.specs.Antichain.{add, survivors}

pub survivors_append : (kept xs ys : List (List ℕ)) → survivors kept (xs ++ ys) ≡ survivors (survivors kept xs) ys
survivors_append kept [] ys = refl
survivors_append kept (x ∷ xs) ys = survivors_append (add kept x) xs ys

pub unions_push : (as' : List (List ℕ)) (a : List ℕ) (bs : List (List ℕ)) → unions (as' ++ a ∷ []) bs ≡ unions as' bs ++ map (union a) bs
unions_push [] a bs = append-nil (map (union a) bs)
unions_push (x ∷ xs) a bs = ap (λ z. map (union x) bs ++ z) (unions_push xs a bs) ∙ sym (append_assoc (map (union x) bs) (unions xs bs) (map (union a) bs))

module _ {X : Type 0} (f : X → List ℕ) (p : List ℕ → Bool) (xs : List X) (i : ℕ) (x : X) (l : i < length xs) (e : x ≡ get_or xs i x) where
  front_push : map f (take (i + 1) xs) ≡ map f (take i xs) ++ f x ∷ []
  front_push = ap (map f) (take_more xs i x l) ∙ map-append f (take i xs) (get_or xs i x ∷ []) ∙ ap (λ z. map f (take i xs) ++ f z ∷ []) (sym e)

  -- the inner loop: one more union
  module _ (start cur : List (List ℕ)) (a : List ℕ) (inv : cur ≡ survivors start (keep p (map (union a) (map f (take i xs))))) where
    inner : (b : Bool) → p (union a (f x)) ≡ b → keep p (map (union a) (map f (take (i + 1) xs))) ≡ keep p (map (union a) (map f (take i xs))) ++ cond b (union a (f x) ∷ []) []
    inner b h =
        ap (λ z. keep p (map (union a) z)) front_push
        ∙ ap (keep p) (map-append (union a) (map f (take i xs)) (f x ∷ []))
        ∙ filter-append p (map (union a) (map f (take i xs))) (union a (f x) ∷ [])
        ∙ ap (λ c. keep p (map (union a) (map f (take i xs))) ++ cond c (union a (f x) ∷ []) []) h

    pub pair_noted : (new : List (List ℕ)) → p (union a (f x)) ≡ true → new ≡ add cur (union a (f x)) → new ≡ survivors start (keep p (map (union a) (map f (take (i + 1) xs))))
    pair_noted new h n =
        n ∙ ap (λ z. add z (union a (f x))) inv
        ∙ sym (ap (survivors start) (inner true h) ∙ survivors_append start (keep p (map (union a) (map f (take i xs)))) (union a (f x) ∷ []))

    pub pair_passed : p (union a (f x)) ≡ false → cur ≡ survivors start (keep p (map (union a) (map f (take (i + 1) xs))))
    pair_passed h = inv ∙ sym (ap (survivors start) (inner false h ∙ append-nil _))

  -- the outer loop: one more choice of the first node
  pub choice_noted : (bs cur new : List (List ℕ)) → cur ≡ survivors [] (keep p (unions (map f (take i xs)) bs)) → new ≡ survivors cur (keep p (map (union (f x)) bs)) → new ≡ survivors [] (keep p (unions (map f (take (i + 1) xs)) bs))
  choice_noted bs cur new inv n =
      n ∙ ap (λ z. survivors z (keep p (map (union (f x)) bs))) inv
      ∙ sym (survivors_append [] (keep p (unions (map f (take i xs)) bs)) (keep p (map (union (f x)) bs)))
      ∙ sym (ap (survivors []) (ap (λ z. keep p (unions z bs)) front_push ∙ ap (keep p) (unions_push (map f (take i xs)) (f x) bs) ∙ filter-append p (unions (map f (take i xs)) bs) (map (union (f x)) bs)))

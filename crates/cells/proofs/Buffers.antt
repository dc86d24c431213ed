-- Elements put into a buffer one after another; those behind stay.
use Rattle.std.proofs.Common.{◌≡◌, ℕ, ◌+◌, ◌<◌, List, [], ◌∷◌, ◌++◌, map, length, get_or, take, drop, set, sym, ap, ◌∙◌, arith}
use Rattle.std.proofs.lemmas.List.{drop_more, set_at, append_assoc, map_more, length-map, length-take-le}

pub put_more : (xs old out : List ℕ) (k v : ℕ) → length xs ≡ k → k < length old → out ≡ xs ++ drop k old → set out k v ≡ (xs ++ v ∷ []) ++ drop (k + 1) old
put_more xs old out k v l h e =
    ap (λ o. set o k v) (e ∙ ap (λ t. xs ++ t) (drop_more old k 0 h))
    ∙ set_at xs (get_or old k 0) (drop (k + 1) old) v k l
    ∙ sym (append_assoc xs (v ∷ []) (drop (k + 1) old))

-- one element of a mapped list more
pub put_map : (f : ℕ → ℕ) (xs old out : List ℕ) (k v : ℕ) → k < length xs → k < length old → v ≡ f (get_or xs k 0) → out ≡ map f (take k xs) ++ drop k old → set out k v ≡ map f (take (k + 1) xs) ++ drop (k + 1) old
put_map f xs old out k v h g e o =
    put_more (map f (take k xs)) old out k v (length-map (take k xs) f ∙ length-take-le k xs (omega arith)) g o
    ∙ ap (λ zs. zs ++ drop (k + 1) old) (ap (λ x. map f (take k xs) ++ x ∷ []) e ∙ sym (map_more f xs k 0 h))

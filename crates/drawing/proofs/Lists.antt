-- More on lists: an element by its place, and one more at the end.
use Rattle.std.proofs.Common.{◌≡◌, ℕ, zero, suc, ◌+◌, ◌<◌, Bool, true, false, ltb, List, [], ◌∷◌, ◌++◌, length, get_or, replicate, refl, arith}
use Rattle.std.proofs.lemmas.Bool.{and_parts, and_from, ltb-true, lt-ltb}
use Rattle.drawing.specs.Sets.{every, rises, below}

pub every_push : {X : Type 0} (p : X → Bool) (xs : List X) (y : X) → every p xs ≡ true → p y ≡ true → every p (xs ++ y ∷ []) ≡ true
every_push p [] y h k = and_from _ _ k refl
every_push p (x ∷ xs) y h k = let q = and_parts (p x) (every p xs) h in and_from (p x) _ q.0 (every_push p xs y q.1 k)

-- a larger number behind numbers that rise
pub rises_push : (n : ℕ) (xs : List ℕ) (v : ℕ) → rises n xs ≡ true → n < v → below v xs ≡ true → rises n (xs ++ v ∷ []) ≡ true
rises_push n [] v r l b = and_from _ _ (lt-ltb n v l) refl
rises_push n (x ∷ xs) v r l b =
    let p = and_parts (ltb n x) (rises x xs) r in
    let q = and_parts (ltb x v) (below v xs) b in
    and_from (ltb n x) _ p.0 (rises_push x xs v p.1 (ltb-true x v q.0) q.1)

-- there are fewer numbers that rise between two bounds than the bounds leave room for
pub rises_few : (n m : ℕ) (xs : List ℕ) → n < m → rises n xs ≡ true → below m xs ≡ true → n + length xs < m
rises_few n m [] l r b = omega arith
rises_few n m (x ∷ xs) l r b =
    let p = and_parts (ltb n x) (rises x xs) r in
    let q = and_parts (ltb x m) (below m xs) b in
    omega (arith, ltb-true n x p.0, rises_few x m xs (ltb-true x m q.0) p.1 q.1)

-- nothing is marked
pub none_marked : (n u : ℕ) → get_or (replicate n false) u false ≡ false
none_marked zero u = refl
none_marked (suc n) zero = refl
none_marked (suc n) (suc u) = none_marked n u

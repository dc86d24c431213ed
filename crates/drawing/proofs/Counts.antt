-- Lists without repeats: two with the same members have one length. The subsets of a set stand in their list once each.
use Rattle.std.proofs.Common.{◌≡◌, ℕ, zero, suc, ◌≤◌, Bool, true, false, cond, ltb, ◌⊎◌, List, [], ◌∷◌, ◌++◌, map, length, sym, refl, ap, ◌∙◌, inl, inr, ⊎_elim, arith}
use Rattle.std.proofs.lemmas.Bool.{and_parts}
use Rattle.drawing.specs.Sets.{mem, rises, keep, subsets, In}
use Rattle.drawing.proofs.Members.{keep_in, in_append, map_in}
use Rattle.drawing.proofs.SetLaws.{subsets_in, mem_head, rises_mem}

-- each once
abbrev pub Once : {X : Type 0} → List X → Type 0
Once [] = Unit {0}
Once (x ∷ xs) = (In x xs → ⊥) × Once xs

-- a list without one place of x
remove : {X : Type 0} (x : X) (ys : List X) → In x ys → (zs : List X) × (suc (length zs) ≡ length ys) × ((a : X) → In a ys → (a ≡ x) ⊎ In a zs)
remove x [] m = elim m [ ]
remove x (y ∷ ys) (inl e) = (ys, refl, λ a i. ⊎_elim (λ (f : y ≡ a). inl (sym f ∙ e)) (λ f. inr f) i)
remove x (y ∷ ys) (inr m) =
    let r = remove x ys m in
    (y ∷ r.0, ap suc r.1, λ a i. ⊎_elim (λ f. inr (inl f)) (λ f. ⊎_elim (λ g. inl g) (λ g. inr (inr g)) (r.2 a f)) i)

pub once_length : {X : Type 0} (xs ys : List X) → Once xs → ((a : X) → In a xs → In a ys) → length xs ≤ length ys
once_length [] ys o h = omega arith
once_length (x ∷ xs) ys o h =
    let r = remove x ys (h x (inl refl)) in
    let l = once_length xs r.0 o.1 (λ a i. ⊎_elim (λ (e : a ≡ x). absurd (o.0 (rw e at i))) (λ g. g) (r.2 a (h a (inr i)))) in
    omega (arith, r.1)

pub same_length : {X : Type 0} (xs ys : List X) → Once xs → Once ys → ((a : X) → In a xs → In a ys) → ((a : X) → In a ys → In a xs) → length xs ≡ length ys
same_length xs ys o p h k = omega (arith, once_length xs ys o h, once_length ys xs p k)

pub once_keep : {X : Type 0} (p : X → Bool) (xs : List X) → Once xs → Once (keep p xs)
once_keep p [] o = tt
once_keep p (x ∷ xs) o =
    let r = once_keep p xs o.1 in
    elim (p x) as (λ b. Once (cond b (x ∷ keep p xs) (keep p xs))) [ true ↦ ((λ m. o.0 (keep_in p x xs m).0), r) | false ↦ r ]

pub once_append : {X : Type 0} (xs ys : List X) → Once xs → Once ys → ((a : X) → In a xs → In a ys → ⊥) → Once (xs ++ ys)
once_append [] ys o p h = p
once_append (x ∷ xs) ys o p h =
    ((λ m. ⊎_elim (λ i. o.0 i) (λ i. h x (inl refl) i) (in_append x xs ys m)), once_append xs ys o.1 p (λ a i j. h a (inr i) j))

pub once_map : {X Y : Type 0} (f : X → Y) (xs : List X) → ((a b : X) → f a ≡ f b → a ≡ b) → Once xs → Once (map f xs)
once_map f [] inj o = tt
once_map f (x ∷ xs) inj o =
    ((λ m. let r = map_in f (f x) xs m in let e = inj r.0 x r.2 in o.0 (rw e at r.1)), once_map f xs inj o.1)

pub once_subsets : (n k : ℕ) (t : List ℕ) → rises n t ≡ true → Once (subsets k t)
once_subsets n k [] r = ((λ m. m), tt)
once_subsets n zero (x ∷ xs) r = ((λ m. m), tt)
once_subsets n (suc k) (x ∷ xs) r =
    let p = and_parts (ltb n x) (rises x xs) r in
    once_append (map (λ z. x ∷ z) (subsets k xs)) (subsets (suc k) xs)
    (once_map (λ z. x ∷ z) (subsets k xs) (λ a b (e : x ∷ a ≡ x ∷ b). cc) (once_subsets x k xs p.1))
    (once_subsets x (suc k) xs p.1)
    (λ a i j.
    let q = map_in (λ z. x ∷ z) a (subsets k xs) i in
    let w = subsets_in x (suc k) a xs p.1 j in
    let m : mem x a ≡ true = rw (← q.2) (mem_head x q.0) in
    let l = rises_mem x a x w.rising m in
    omega arith)

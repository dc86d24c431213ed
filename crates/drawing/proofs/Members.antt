-- What is in a list, and what a test says of its members.
use Rattle.std.proofs.Common.{◌≡◌, ℕ, zero, suc, ◌+◌, ◌<◌, ◌≤◌, Bool, true, false, cond, ◌⊎◌, List, [], ◌∷◌, ◌++◌, map, length, get_or, sym, refl, ap, inl, inr, ⊎_elim, arith}
use Rattle.std.specs.List.{range_with_len}
use Rattle.std.proofs.lemmas.Bool.{and_parts, and_from, or_cases, or_left, or_right, eqb-true, eq-eqb, both_ways, cases_Bool, cases_order}
use Rattle.drawing.specs.Sets.{mem, same, keep, some, every, elem, In}

-- what is not true is false
pub false_by : (b : Bool) → (b ≡ true → ⊥) → b ≡ false
false_by b h = ⊎_elim (λ e. absurd (h e)) (λ e. e) (cases_Bool b)

pub in_append_left : {X : Type 0} (a : X) (xs ys : List X) → In a xs → In a (xs ++ ys)
in_append_left a [] ys m = elim m [ ]
in_append_left a (x ∷ xs) ys (inl e) = inl e
in_append_left a (x ∷ xs) ys (inr m) = inr (in_append_left a xs ys m)

pub in_append_right : {X : Type 0} (a : X) (xs ys : List X) → In a ys → In a (xs ++ ys)
in_append_right a [] ys m = m
in_append_right a (x ∷ xs) ys m = inr (in_append_right a xs ys m)

pub in_append : {X : Type 0} (a : X) (xs ys : List X) → In a (xs ++ ys) → In a xs ⊎ In a ys
in_append a [] ys m = inr m
in_append a (x ∷ xs) ys (inl e) = inl (inl e)
in_append a (x ∷ xs) ys (inr m) = ⊎_elim (λ l. inl (inr l)) (λ r. inr r) (in_append a xs ys m)

pub in_map : {X Y : Type 0} (f : X → Y) (a : X) (xs : List X) → In a xs → In (f a) (map f xs)
in_map f a [] m = elim m [ ]
in_map f a (x ∷ xs) (inl e) = inl (ap f e)
in_map f a (x ∷ xs) (inr m) = inr (in_map f a xs m)

pub map_in : {X Y : Type 0} (f : X → Y) (b : Y) (xs : List X) → In b (map f xs) → (a : X) × In a xs × (f a ≡ b)
map_in f b [] m = elim m [ ]
map_in f b (x ∷ xs) (inl e) = (x, inl refl, e)
map_in f b (x ∷ xs) (inr m) = let r = map_in f b xs m in (r.0, inr r.1, r.2)

pub every_in : {X : Type 0} (p : X → Bool) (a : X) (xs : List X) → every p xs ≡ true → In a xs → p a ≡ true
every_in p a [] h m = elim m [ ]
every_in p a (x ∷ xs) h (inl e) = rw (← e) (and_parts _ _ h).0
every_in p a (x ∷ xs) h (inr m) = every_in p a xs (and_parts _ _ h).1 m

pub in_every : {X : Type 0} (p : X → Bool) (xs : List X) → ((a : X) → In a xs → p a ≡ true) → every p xs ≡ true
in_every p [] h = refl
in_every p (x ∷ xs) h = and_from _ _ (h x (inl refl)) (in_every p xs (λ a m. h a (inr m)))

pub some_in : {X : Type 0} (p : X → Bool) (xs : List X) → some p xs ≡ true → (a : X) × In a xs × (p a ≡ true)
some_in p [] h = absurd (both_ways false refl h)
some_in p (x ∷ xs) h = ⊎_elim (λ e. (x, inl refl, e)) (λ e. let r = some_in p xs e in (r.0, inr r.1, r.2)) (or_cases _ _ h)

pub in_some : {X : Type 0} (p : X → Bool) (a : X) (xs : List X) → In a xs → p a ≡ true → some p xs ≡ true
in_some p a [] m h = elim m [ ]
in_some p a (x ∷ xs) (inl e) h = or_left (p x) (some p xs) (rw e h)
in_some p a (x ∷ xs) (inr m) h = or_right _ _ (in_some p a xs m h)

pub not_some : {X : Type 0} (p : X → Bool) (a : X) (xs : List X) → some p xs ≡ false → In a xs → p a ≡ false
not_some p a xs h m = ⊎_elim (λ e. absurd (both_ways _ h (in_some p a xs m e))) (λ e. e) (cases_Bool (p a))

pub in_keep : {X : Type 0} (p : X → Bool) (a : X) (xs : List X) → In a xs → p a ≡ true → In a (keep p xs)
in_keep p a [] m h = elim m [ ]
in_keep p a (x ∷ xs) (inl e) h = let k : p x ≡ true = rw e h in rw k (inl e)
in_keep p a (x ∷ xs) (inr m) h =
    let r = in_keep p a xs m h in
    elim (p x) as (λ b. In a (cond b (x ∷ keep p xs) (keep p xs))) [ true ↦ inr r | false ↦ r ]

keep_step : {X : Type 0} (p : X → Bool) (a x : X) (xs ks : List X) (b : Bool) → p x ≡ b → (In a ks → In a xs × (p a ≡ true)) → In a (cond b (x ∷ ks) ks) → In a (x ∷ xs) × (p a ≡ true)
keep_step p a x xs ks true e f (inl i) = (inl i, rw (← i) e)
keep_step p a x xs ks true e f (inr n) = (inr (f n).0, (f n).1)
keep_step p a x xs ks false e f n = (inr (f n).0, (f n).1)

pub keep_in : {X : Type 0} (p : X → Bool) (a : X) (xs : List X) → In a (keep p xs) → In a xs × (p a ≡ true)
keep_in p a [] m = elim m [ ]
keep_in p a (x ∷ xs) m = keep_step p a x xs (keep p xs) (p x) refl (λ n. keep_in p a xs n) m

pub mem_in : (u : ℕ) (xs : List ℕ) → mem u xs ≡ true → In u xs
mem_in u [] h = absurd (both_ways false refl h)
mem_in u (x ∷ xs) h = ⊎_elim (λ e. inl (sym (eqb-true u x e))) (λ e. inr (mem_in u xs e)) (or_cases _ _ h)

pub in_mem : (u : ℕ) (xs : List ℕ) → In u xs → mem u xs ≡ true
in_mem u [] m = elim m [ ]
in_mem u (x ∷ xs) (inl e) = or_left _ _ (eq-eqb u x (sym e))
in_mem u (x ∷ xs) (inr m) = or_right _ _ (in_mem u xs m)

pub same_is : (s t : List ℕ) → same s t ≡ true → s ≡ t
same_is [] [] h = refl
same_is [] (y ∷ ys) h = absurd (both_ways false refl h)
same_is (x ∷ xs) [] h = absurd (both_ways false refl h)
same_is (x ∷ xs) (y ∷ ys) h = let p = and_parts _ _ h in let e = eqb-true x y p.0 in let f = same_is xs ys p.1 in cc

pub same_refl : (s : List ℕ) → same s s ≡ true
same_refl [] = refl
same_refl (x ∷ xs) = and_from _ _ (eq-eqb x x refl) (same_refl xs)

pub elem_in : (s : List ℕ) (l : List (List ℕ)) → elem s l ≡ true → In s l
elem_in s l h = let r = some_in (same s) l h in let e = same_is s r.0 r.2 in rw e r.1

pub in_elem : (s : List ℕ) (l : List (List ℕ)) → In s l → elem s l ≡ true
in_elem s l m = in_some (same s) s l m (same_refl s)

pub every_same : {X : Type 0} (p q : X → Bool) (xs : List X) → ((a : X) → In a xs → p a ≡ q a) → every p xs ≡ every q xs
every_same p q [] h = refl
every_same p q (x ∷ xs) h =
    let e = h x (inl refl) in
    let f = every_same p q xs (λ a m. h a (inr m)) in
    cc

pub some_same : {X : Type 0} (p q : X → Bool) (xs : List X) → ((a : X) → In a xs → p a ≡ q a) → some p xs ≡ some q xs
some_same p q [] h = refl
some_same p q (x ∷ xs) h =
    let e = h x (inl refl) in
    let f = some_same p q xs (λ a m. h a (inr m)) in
    cc

pub keep_same : {X : Type 0} (p q : X → Bool) (xs : List X) → ((a : X) → In a xs → p a ≡ q a) → keep p xs ≡ keep q xs
keep_same p q [] h = refl
keep_same p q (x ∷ xs) h =
    let e = h x (inl refl) in
    let f = keep_same p q xs (λ a m. h a (inr m)) in
    cc

pub map_same : {X Y : Type 0} (f g : X → Y) (xs : List X) → ((a : X) → In a xs → f a ≡ g a) → map f xs ≡ map g xs
map_same f g [] h = refl
map_same f g (x ∷ xs) h = let a = h x (inl refl) in let b = map_same f g xs (λ y m. h y (inr m)) in cc

pub in_counting : (a n v : ℕ) → a ≤ v → v < a + n → In v (range_with_len a n)
in_counting a zero v l h = absurd (omega arith)
in_counting a (suc n) v l h =
    ⊎_elim (λ (e : a ≡ v). inl e) (λ c. inr (in_counting (a + 1) n v (⊎_elim (λ (x : a < v). omega arith) (λ (x : v < a). absurd (omega arith)) c) (omega arith))) (cases_order a v)

pub counting_in : (a n v : ℕ) → In v (range_with_len a n) → (a ≤ v) × (v < a + n)
counting_in a zero v m = elim m [ ]
counting_in a (suc n) v (inl e) = omega arith
counting_in a (suc n) v (inr m) = let r = counting_in (a + 1) n v m in omega arith

-- an element, by its place
pub every_at : {X : Type 0} (p : X → Bool) (xs : List X) (i : ℕ) (d : X) → every p xs ≡ true → i < length xs → p (get_or xs i d) ≡ true
every_at p [] i d h l = absurd (omega arith)
every_at p (x ∷ xs) zero d h l = (and_parts _ _ h).0
every_at p (x ∷ xs) (suc i) d h l = every_at p xs i d (and_parts _ _ h).1 (omega arith)

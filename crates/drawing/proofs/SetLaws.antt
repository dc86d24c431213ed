-- Sets as lists that rise: the same members make the same list, and a part is shorter.
use Rattle.std.proofs.Common.{◌≡◌, ℕ, zero, suc, ◌+◌, ◌<◌, ◌≤◌, Bool, true, false, cond, ◌&&◌, ◌||◌, eqb, ltb, ◌⊎◌, List, [], ◌∷◌, ◌++◌, map, length, refl, ap, subst, inl, inr, ⊎_elim, arith}
use Rattle.std.proofs.lemmas.Bool.{and_parts, and_from, or_cases, or_left, or_right, eqb-true, eq-eqb, both_ways, ltb-true, lt-ltb, cases_order, cond_both}
use Rattle.std.proofs.lemmas.Bool.Decides.{nat_tests}
use Rattle.drawing.specs.Sets.{mem, sub, rises, below, insert, union, keep, subsets, In}
use Rattle.drawing.proofs.Members.{in_append, in_append_left, in_append_right, in_map, map_in}

-- each member of s is in t
abbrev pub Sub : List ℕ → List ℕ → Type 0
Sub s t = (u : ℕ) → mem u s ≡ true → mem u t ≡ true

pub mem_head : (x : ℕ) (xs : List ℕ) → mem x (x ∷ xs) ≡ true
mem_head x xs = or_left _ _ (eq-eqb x x refl)

pub mem_cases : (u x : ℕ) (xs : List ℕ) → mem u (x ∷ xs) ≡ true → (u ≡ x) ⊎ (mem u xs ≡ true)
mem_cases u x xs h = ⊎_elim (λ e. inl (eqb-true u x e)) (λ e. inr e) (or_cases _ _ h)

pub sub_says : (s t : List ℕ) → sub s t ≡ true → Sub s t
sub_says [] t h u m = absurd (both_ways false refl m)
sub_says (x ∷ xs) t h u m =
    let p = and_parts _ _ h in
    ⊎_elim (λ (e : u ≡ x). rw e p.0) (λ e. sub_says xs t p.1 u e) (mem_cases u x xs m)

pub says_sub : (s t : List ℕ) → Sub s t → sub s t ≡ true
says_sub [] t h = refl
says_sub (x ∷ xs) t h = and_from _ _ (h x (mem_head x xs)) (says_sub xs t (λ u m. h u (or_right _ _ m)))

pub rises_mem : (n : ℕ) (s : List ℕ) (u : ℕ) → rises n s ≡ true → mem u s ≡ true → n < u
rises_mem n [] u r m = absurd (both_ways false refl m)
rises_mem n (x ∷ xs) u r m =
    let p = and_parts _ _ r in
    let l = ltb-true n x p.0 in
    ⊎_elim (λ (e : u ≡ x). omega arith) (λ e. omega (arith, rises_mem x xs u p.1 e)) (mem_cases u x xs m)

pub rises_tail : (n x : ℕ) (xs : List ℕ) → rises n (x ∷ xs) ≡ true → rises x xs ≡ true
rises_tail n x xs r = (and_parts _ _ r).1

pub rises_weaker : (m n : ℕ) (s : List ℕ) → m ≤ n → rises n s ≡ true → rises m s ≡ true
rises_weaker m n [] l r = refl
rises_weaker m n (x ∷ xs) l r =
    let p = and_parts _ _ r in
    let k = ltb-true n x p.0 in
    and_from _ _ (lt-ltb m x (omega arith)) p.1

-- the least member comes first
pub head_first : (n x : ℕ) (xs : List ℕ) (u : ℕ) → rises n (x ∷ xs) ≡ true → mem u (x ∷ xs) ≡ true → x ≤ u
head_first n x xs u r m =
    ⊎_elim (λ (e : u ≡ x). omega arith) (λ e. omega (arith, rises_mem x xs u (rises_tail n x xs r) e)) (mem_cases u x xs m)

pub sub_tails : (m x : ℕ) (xs ys : List ℕ) → rises m (x ∷ xs) ≡ true → Sub (x ∷ xs) (x ∷ ys) → Sub xs ys
sub_tails m x xs ys r h u k =
    let l = rises_mem x xs u (rises_tail m x xs r) k in
    ⊎_elim (λ (e : u ≡ x). absurd (omega arith)) (λ e. e) (mem_cases u x ys (h u (or_right _ _ k)))

pub sub_skip : (m x y : ℕ) (xs ys : List ℕ) → rises m (x ∷ xs) ≡ true → y < x → Sub (x ∷ xs) (y ∷ ys) → Sub (x ∷ xs) ys
sub_skip m x y xs ys r l h u k =
    let g = head_first m x xs u r k in
    ⊎_elim (λ (e : u ≡ y). absurd (omega arith)) (λ e. e) (mem_cases u y ys (h u k))

-- a part of a set is the set, or has fewer members
pub part_less : (m n : ℕ) (t s : List ℕ) → rises m t ≡ true → rises n s ≡ true → Sub t s → (t ≡ s) ⊎ (length t < length s)
part_less m n [] [] a b h = inl refl
part_less m n [] (y ∷ ys) a b h = inr (omega arith)
part_less m n (x ∷ xs) [] a b h = absurd (both_ways false refl (h x (mem_head x xs)))
part_less m n (x ∷ xs) (y ∷ ys) a b h =
    let c = rises_tail m x xs a in
    let d = rises_tail n y ys b in
    let o = head_first n y ys x b (h x (mem_head x xs)) in
    let E : Type 0 = (◌≡◌ {A = List ℕ} (x ∷ xs) (y ∷ ys)) ⊎ (suc (length xs) < suc (length ys)) in
    let equal : x ≡ y → E = λ e. ⊎_elim (λ (f : xs ≡ ys). inl (cc)) (λ f. inr (omega arith)) (part_less x y xs ys c d (sub_tails m x xs ys a (rw (← e) at h))) in
    let above : y < x → E = λ l. ⊎_elim (λ (f : x ∷ xs ≡ ys). inr (omega (arith, ap length f))) (λ f. inr (omega arith)) (part_less m y (x ∷ xs) ys a d (sub_skip m x y xs ys a l h)) in
    ⊎_elim equal (⊎_elim (λ l. absurd (omega arith)) above) (cases_order x y)

pub part_length : (m n : ℕ) (t s : List ℕ) → rises m t ≡ true → rises n s ≡ true → Sub t s → length t ≤ length s
part_length m n t s a b h = ⊎_elim (λ e. omega (arith, ap length e)) (λ l. omega arith) (part_less m n t s a b h)

-- the same members make the same list
pub same_members : (m n : ℕ) (s t : List ℕ) → rises m s ≡ true → rises n t ≡ true → Sub s t → Sub t s → s ≡ t
same_members m n s t a b h k =
    ⊎_elim (λ e. e) (λ l. absurd (omega (arith, part_length n m t s b a k))) (part_less m n s t a b h)

-- subsets
pub nil_in_subsets : (k : ℕ) (t : List ℕ) → In [] (subsets k t)
nil_in_subsets k [] = inl refl
nil_in_subsets zero (x ∷ xs) = inl refl
nil_in_subsets (suc k) (x ∷ xs) = in_append_right [] _ _ (nil_in_subsets (suc k) xs)

pub in_subsets : (m n k : ℕ) (s t : List ℕ) → rises m s ≡ true → rises n t ≡ true → Sub s t → length s ≤ k → In s (subsets k t)
in_subsets m n k [] t a b h l = nil_in_subsets k t
in_subsets m n k (x ∷ xs) [] a b h l = absurd (both_ways false refl (h x (mem_head x xs)))
in_subsets m n zero (x ∷ xs) (y ∷ ys) a b h l = absurd (omega arith)
in_subsets m n (suc k) (x ∷ xs) (y ∷ ys) a b h l =
    let c = rises_tail m x xs a in
    let d = rises_tail n y ys b in
    let o = head_first n y ys x b (h x (mem_head x xs)) in
    let E : Type 0 = In (x ∷ xs) (map (λ z. y ∷ z) (subsets k ys) ++ subsets (suc k) ys) in
    let equal : x ≡ y → E = λ e. rw e (in_append_left _ _ _ (in_map (λ z. y ∷ z) xs (subsets k ys) (in_subsets x y k xs ys c d (sub_tails m x xs ys a (rw (← e) at h)) (omega arith)))) in
    let above : y < x → E = λ g. in_append_right _ _ _ (in_subsets m y (suc k) (x ∷ xs) ys a d (sub_skip m x y xs ys a g h) l) in
    ⊎_elim equal (⊎_elim (λ g. absurd (omega arith)) above) (cases_order x y)

-- what a subset is
pub record Part (n k : ℕ) (s t : List ℕ) : Type 0 where
  pub rising : rises n s ≡ true
  pub inside : Sub s t
  pub few : length s ≤ k

part_nil : (n k : ℕ) (t : List ℕ) → Part n k [] t
part_nil n k t = record { rising = refl; inside = λ u m. absurd (both_ways false refl m); few = omega arith }

part_with : (n k x : ℕ) (s t : List ℕ) → ltb n x ≡ true → Part x k s t → Part n (suc k) (x ∷ s) (x ∷ t)
part_with n k x s t l p = record {
  rising = and_from _ _ l p.rising;
  inside = λ u m. ⊎_elim (λ (e : u ≡ x). or_left _ _ (eq-eqb u x e)) (λ e. or_right _ _ (p.inside u e)) (mem_cases u x s m);
  few = omega arith;
}

part_without : (n k x : ℕ) (s t : List ℕ) → ltb n x ≡ true → Part x k s t → Part n k s (x ∷ t)
part_without n k x s t l p = record {
  rising = rises_weaker n x s (omega (arith, ltb-true n x l)) p.rising;
  inside = λ u m. or_right _ _ (p.inside u m);
  few = p.few;
}

pub subsets_in : (n k : ℕ) (s t : List ℕ) → rises n t ≡ true → In s (subsets k t) → Part n k s t
subsets_in n k s [] r (inl e) = subst (λ z. Part n k z []) e (part_nil n k [])
subsets_in n k s [] r (inr m) = elim m [ ]
subsets_in n zero s (x ∷ xs) r (inl e) = subst (λ z. Part n zero z (x ∷ xs)) e (part_nil n zero (x ∷ xs))
subsets_in n zero s (x ∷ xs) r (inr m) = elim m [ ]
subsets_in n (suc k) s (x ∷ xs) r m =
    let p = and_parts _ _ r in
    ⊎_elim
    (λ l. let q = map_in (λ z. x ∷ z) s (subsets k xs) l in
    subst (λ z. Part n (suc k) z (x ∷ xs)) q.2 (part_with n k x q.0 xs p.0 (subsets_in x k q.0 xs p.1 q.1)))
    (λ l. part_without n (suc k) x s xs p.0 (subsets_in x (suc k) s xs p.1 l))
    (in_append s _ _ m)

-- a union
insert_cases : (u x v : ℕ) (xs rest : List ℕ) → mem v rest ≡ (eqb v u || mem v xs) → mem v (cond (ltb u x) (u ∷ x ∷ xs) (cond (eqb u x) (x ∷ xs) (x ∷ rest))) ≡ (eqb v u || (eqb v x || mem v xs))
insert_cases u x v xs rest h = grind (arith, nat_tests)

pub mem_insert : (v u : ℕ) (s : List ℕ) → mem v (insert u s) ≡ (eqb v u || mem v s)
mem_insert v u [] = refl
mem_insert v u (x ∷ xs) = insert_cases u x v xs (insert u xs) (mem_insert v u xs)

pub mem_union : (v : ℕ) (s t : List ℕ) → mem v (union s t) ≡ (mem v s || mem v t)
mem_union v [] t = refl
mem_union v (x ∷ xs) t = let h = mem_union v xs t in let k = mem_insert v x (union xs t) in grind arith

rises_insert_cases : (n u x : ℕ) (xs rest : List ℕ) → n < u → rises n (x ∷ xs) ≡ true → (x < u → rises x rest ≡ true) → rises n (cond (ltb u x) (u ∷ x ∷ xs) (cond (eqb u x) (x ∷ xs) (x ∷ rest))) ≡ true
rises_insert_cases n u x xs rest l r h = grind (arith, nat_tests)

pub rises_insert : (n u : ℕ) (s : List ℕ) → n < u → rises n s ≡ true → rises n (insert u s) ≡ true
rises_insert n u [] l r = and_from _ _ (lt-ltb n u l) refl
rises_insert n u (x ∷ xs) l r = rises_insert_cases n u x xs (insert u xs) l r (λ g. rises_insert x u xs g (rises_tail n x xs r))

pub rises_union : (n : ℕ) (s t : List ℕ) → rises n s ≡ true → rises n t ≡ true → rises n (union s t) ≡ true
rises_union n [] t a b = b
rises_union n (x ∷ xs) t a b =
    let p = and_parts _ _ a in
    let l = ltb-true n x p.0 in
    rises_insert n x (union xs t) l (rises_union n xs t (rises_weaker n x xs (omega arith) p.1) b)

-- below
pub below_says : (n : ℕ) (s : List ℕ) (u : ℕ) → below n s ≡ true → mem u s ≡ true → u < n
below_says n [] u b m = absurd (both_ways false refl m)
below_says n (x ∷ xs) u b m =
    let p = and_parts _ _ b in
    let l = ltb-true x n p.0 in
    ⊎_elim (λ (e : u ≡ x). omega arith) (λ e. below_says n xs u p.1 e) (mem_cases u x xs m)

pub says_below : (n : ℕ) (s : List ℕ) → ((u : ℕ) → mem u s ≡ true → u < n) → below n s ≡ true
says_below n [] h = refl
says_below n (x ∷ xs) h = and_from _ _ (lt-ltb x n (h x (mem_head x xs))) (says_below n xs (λ u m. h u (or_right _ _ m)))

pub below_more : (m n : ℕ) (s : List ℕ) → m ≤ n → below m s ≡ true → below n s ≡ true
below_more m n s l b = says_below n s (λ u i. omega (arith, below_says m s u b i))

-- what a test keeps of a set
pub mem_keep : (p : ℕ → Bool) (u : ℕ) (s : List ℕ) → mem u (keep p s) ≡ (mem u s && p u)
mem_keep p u [] = refl
mem_keep p u (x ∷ xs) = let h = mem_keep p u xs in grind (arith, nat_tests)

pub rises_keep : (p : ℕ → Bool) (n : ℕ) (s : List ℕ) → rises n s ≡ true → rises n (keep p s) ≡ true
rises_keep p n [] r = refl
rises_keep p n (x ∷ xs) r =
    let q = and_parts _ _ r in
    let g = ltb-true n x q.0 in
    let i = rises_keep p x xs q.1 in
    elim (p x) as (λ b. rises n (cond b (x ∷ keep p xs) (keep p xs)) ≡ true) [ true ↦ and_from _ _ q.0 i | false ↦ rises_weaker n x (keep p xs) (omega arith) i ]

pub length_insert : (u : ℕ) (s : List ℕ) → length (insert u s) ≤ suc (length s)
length_insert u [] = omega arith
length_insert u (x ∷ xs) =
    let h = length_insert u xs in
    cond_both (ltb u x) _ _ (λ z. length z ≤ suc (suc (length xs))) (λ _. omega arith)
    (λ _. cond_both (eqb u x) _ _ (λ z. length z ≤ suc (suc (length xs))) (λ _. omega arith) (λ _. omega arith))

pub length_union : (s t : List ℕ) → length (union s t) ≤ length s + length t
length_union [] t = omega arith
length_union (x ∷ xs) t = omega (arith, length_insert x (union xs t), length_union xs t)

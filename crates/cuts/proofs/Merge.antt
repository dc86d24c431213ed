-- The union of two rising sets, taken from the front: what a merge does.
use Rattle.std.proofs.Common.{◌≡◌, ℕ, ◌-◌, ◌<◌, Bool, true, ◌||◌, eqb, ltb, List, [], ◌∷◌, length, get_or, take, drop, sym, refl, ap, ◌∙◌, arith}
use Rattle.std.proofs.lemmas.Bool.{and_parts, and_from, lt-ltb, cond-true}
use Rattle.std.proofs.lemmas.List.{take_all}
use Rattle.drawing.specs.Sets.{mem, rises, insert, union}
use Rattle.cuts.specs.Merging.{Stepped}
use Rattle.drawing.proofs.SetLaws.{same_members, rises_tail, rises_weaker, rises_union, mem_union}

pub same_mem : (m n : ℕ) (s t : List ℕ) → rises m s ≡ true → rises n t ≡ true → ((u : ℕ) → mem u s ≡ mem u t) → s ≡ t
same_mem m n s t a b h = same_members m n s t a b (λ u i. sym (h u) ∙ i) (λ u i. h u ∙ i)

insert_front : (u : ℕ) (s : List ℕ) → rises u s ≡ true → insert u s ≡ u ∷ s
insert_front u [] r = refl
insert_front u (x ∷ xs) r = cond-true (ltb u x) _ _ (and_parts _ _ r).0

pub union_nil : (n : ℕ) (s : List ℕ) → rises n s ≡ true → union s [] ≡ s
union_nil n [] r = refl
union_nil n (x ∷ xs) r = ap (insert x) (union_nil x xs (rises_tail n x xs r)) ∙ insert_front x xs (rises_tail n x xs r)

module _ (m n x y : ℕ) (xs ys : List ℕ) (a : rises m (x ∷ xs) ≡ true) (b : rises n (y ∷ ys) ≡ true) where
  pub union_left : x < y → union (x ∷ xs) (y ∷ ys) ≡ x ∷ union xs (y ∷ ys)
  union_left l = insert_front x (union xs (y ∷ ys)) (rises_union x xs (y ∷ ys) (rises_tail m x xs a) (and_from _ _ (lt-ltb x y l) (rises_tail n y ys b)))

  above : rises 0 (x ∷ xs) ≡ true → rises 0 (y ∷ ys) ≡ true → rises 0 (union (x ∷ xs) (y ∷ ys)) ≡ true
  above p q = rises_union 0 (x ∷ xs) (y ∷ ys) p q

pub union_right : (x y : ℕ) (xs ys : List ℕ) → rises 0 (x ∷ xs) ≡ true → rises 0 (y ∷ ys) ≡ true → y < x → union (x ∷ xs) (y ∷ ys) ≡ y ∷ union (x ∷ xs) ys
union_right x y xs ys a b l =
    same_mem 0 0 _ _ (rises_union 0 (x ∷ xs) (y ∷ ys) a b)
    (and_from _ _ (and_parts _ _ b).0 (rises_union y (x ∷ xs) ys (and_from _ _ (lt-ltb y x l) (rises_tail 0 x xs a)) (rises_tail 0 y ys b)))
    (λ u. mem_union u (x ∷ xs) (y ∷ ys) ∙ swap (mem u (x ∷ xs)) (eqb u y) (mem u ys) ∙ ap (λ z. eqb u y || z) (sym (mem_union u (x ∷ xs) ys)))
  where
    swap : (p q r : Bool) → (p || (q || r)) ≡ (q || (p || r))
    swap p q r = grind arith

pub union_both : (x : ℕ) (xs ys : List ℕ) → rises 0 (x ∷ xs) ≡ true → rises 0 (x ∷ ys) ≡ true → union (x ∷ xs) (x ∷ ys) ≡ x ∷ union xs ys
union_both x xs ys a b =
    same_mem 0 0 _ _ (rises_union 0 (x ∷ xs) (x ∷ ys) a b)
    (and_from _ _ (and_parts _ _ a).0 (rises_union x xs ys (rises_tail 0 x xs a) (rises_tail 0 x ys b)))
    (λ u. mem_union u (x ∷ xs) (x ∷ ys) ∙ drop_one (eqb u x) (mem u xs) (mem u ys) ∙ ap (λ z. eqb u x || z) (sym (mem_union u xs ys)))
  where
    drop_one : (p q r : Bool) → ((p || q) || (p || r)) ≡ (p || (q || r))
    drop_one p q r = grind arith

-- a row's first, and what is behind it
pub first_rest : (s : List ℕ) → 0 < length s → s ≡ get_or s 0 0 ∷ take (length s - 1) (drop 1 s)
first_rest [] l = absurd (omega arith)
first_rest (x ∷ xs) l = ap (λ z. x ∷ z) (sym (take_all (length (x ∷ xs) - 1) xs (omega arith)))

none_left : (t : List ℕ) → length t < 1 → t ≡ []
none_left [] l = refl
none_left (y ∷ ys) l = absurd (omega arith)

-- one step of a merge of s with t
module _ (s t : List ℕ) (a : rises 0 s ≡ true) (b : rises 0 t ≡ true) where
  -- the first of s, and what is behind it
  module _ (x : ℕ) (xs : List ℕ) (e : s ≡ x ∷ xs) where
    rest_rises : rises 0 xs ≡ true
    rest_rises = rises_weaker 0 x xs (omega arith) (rises_tail 0 x xs (rw e at a))

    pub step_alone : length t < 1 → Stepped s t x xs t
    step_alone l = let f = none_left t l in record {
      taken = rw (e, f) (union_nil 0 (x ∷ xs) (rw e at a) ∙ ap (λ z. x ∷ z) (sym (union_nil 0 xs rest_rises)));
      rising = (rest_rises, b);
      on = omega (arith, ap length e);
    }

    module _ (y : ℕ) (ys : List ℕ) (f : t ≡ y ∷ ys) where
      pub step_less : x < y → Stepped s t x xs t
      step_less l = record {
        taken = rw (e, f) (union_left 0 0 x y xs ys (rw e at a) (rw f at b) l);
        rising = (rest_rises, b);
        on = omega (arith, ap length e);
      }

      behind_rises : rises 0 ys ≡ true
      behind_rises = rises_weaker 0 y ys (omega arith) (rises_tail 0 y ys (rw f at b))

      pub step_both : x ≡ y → Stepped s t x xs ys
      step_both q = record {
        taken = ap (λ z. union z t) e ∙ ap (union (x ∷ xs)) (f ∙ ap (λ z. z ∷ ys) (sym q)) ∙ union_both x xs ys (rw e at a) (rw (f, ← q) at b);
        rising = (rest_rises, behind_rises);
        on = omega (arith, ap length e, ap length f);
      }

      pub step_greater : y < x → Stepped s t y s ys
      step_greater l = record {
        taken = ap (λ z. union z t) e ∙ ap (union (x ∷ xs)) f ∙ union_right x y xs ys (rw e at a) (rw f at b) l ∙ ap (λ z. y ∷ union z ys) (sym e);
        rising = (a, behind_rises);
        on = omega (arith, ap length f);
      }

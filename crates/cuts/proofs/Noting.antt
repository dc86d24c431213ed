-- The steps that keep what is minimal in rows of stored sets.
use Rattle.std.proofs.Common.{◌≡◌, ℕ, ◌+◌, ◌*◌, ◌≤◌, Bool, true, false, cond, not, ◌||◌, List, [], ◌∷◌, ◌++◌, map, sym, refl, ap, ◌∙◌, add-mul, one-mul, arith}
use Rattle.std.specs.List.{list_any}
use Rattle.std.proofs.lemmas.List.{map-append}
use Rattle.drawing.specs.Sets.{sub, keep, some}
use Rattle.cuts.specs.Antichain.{add}
use Rattle.cuts.proofs.Survive.{add_passed, add_new}

keep_map : {X Y : Type 0} (f : X → Y) (p : Y → Bool) (xs : List X) → map f (keep (λ x. p (f x)) xs) ≡ keep p (map f xs)
keep_map f p [] = refl
keep_map f p (x ∷ xs) =
    let h = keep_map f p xs in
    let q : List _ = keep (λ x. p (f x)) xs in
    elim (p (f x)) as (λ b. map f (cond b (x ∷ q) q) ≡ cond b (f x ∷ keep p (map f xs)) (keep p (map f xs))) [ true ↦ ap (λ z. f x ∷ z) h | false ↦ h ]

-- a set of a row passes, in std's word
some_any : {X Y : Type 0} (f : X → Y) (p : Y → Bool) (xs : List X) → some p (map f xs) ≡ list_any (λ x. p (f x)) xs
some_any f p [] = refl
some_any f p (x ∷ xs) = ap (λ b. p (f x) || b) (some_any f p xs)

-- x comes to the rows
module _ {X : Type 0} (f : X → List ℕ) (rows : List X) (x : X) where
  pub noted_passed : list_any (λ m. sub (f m) (f x)) rows ≡ true → map f rows ≡ add (map f rows) (f x)
  noted_passed h = sym (add_passed (map f rows) (f x) (some_any f (λ m. sub m (f x)) rows ∙ h))

  pub noted_new : list_any (λ m. sub (f m) (f x)) rows ≡ false → map f (keep (λ m. not (sub (f x) (f m))) rows ++ x ∷ []) ≡ add (map f rows) (f x)
  noted_new h =
      map-append f (keep (λ m. not (sub (f x) (f m))) rows) (x ∷ []) ∙ ap (λ z. z ++ f x ∷ []) (keep_map f (λ s. not (sub (f x) s)) rows)
      ∙ sym (add_new (map f rows) (f x) (some_any f (λ m. sub m (f x)) rows ∙ h))

-- a turn of a loop adds at most n rows
pub count_more : (count new i n : ℕ) → count ≤ i * n → new ≤ count + n → new ≤ (i + 1) * n
count_more count new i n h l = omega (arith, add-mul i 1 n, one-mul n)

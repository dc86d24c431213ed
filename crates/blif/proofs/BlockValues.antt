-- The values of the blocks: of a table's rows, and of an output's.
use Rattle.std.proofs.Common.{◌≡◌, ℕ, zero, suc, ◌+◌, ◌-◌, ◌*◌, ◌/◌, ◌%◌, ◌^◌, ◌<◌, ◌≤◌, Bool, true, false, cond, ◌||◌, eqb, List, [], ◌∷◌, map, length, codes, sym, refl, ap, ◌∙◌, subst, ⊎_elim, add-one, arith}
use Rattle.std.specs.List.{range_with_len}
use Rattle.std.proofs.lemmas.List.{append-nil}
use Rattle.std.proofs.lemmas.Bool.{and_parts, and_from, cond-true, cond-false, eqb-true, eqb-false, eq-eqb, ne_eqb, cases_Bool, cases_eq, both_ways}
use Rattle.drawing.specs.Sets.{some}
use Rattle.drawing.specs.Values.{Binary}
use Rattle.drawing.proofs.Members.{some_in, in_some, in_keep, keep_in, in_counting, counting_in, some_same}
use Rattle.drawing.proofs.Scans.{some_map}
use Rattle.cells.specs.Truth.{bit}
use Rattle.cells.proofs.Packed.{pow_one}
use Rattle.cells.proofs.Words.{bit_small}
use Rattle.blif.specs.Text.{leaf_digits, on_rows}
use Rattle.blif.specs.Reading.{stands, fits, gives}
use Rattle.blif.proofs.Read.{row_words}

-- the row that values make, the first being its lowest bit
abbrev pub row_number : List ℕ → ℕ
row_number [] = 0
row_number (v ∷ vs) = v + 2 * row_number vs

row_number_lt : (vs : List ℕ) → Binary vs → row_number vs < 2 ^ length vs
row_number_lt [] b = omega arith
row_number_lt (v ∷ vs) b = rw (← add-one (length vs)) (omega (arith, pow_one (length vs), b 0, row_number_lt vs (λ k. b (suc k))))

digit_stands : (x v : ℕ) → stands (48 + x) v ≡ eqb x v
digit_stands x v =
    ap (λ t. t || eqb (48 + x) (48 + v)) (ne_eqb (48 + x) 45 (λ e. omega arith))
    ∙ ⊎_elim (λ (e : x ≡ v). eq-eqb (48 + x) (48 + v) (ap (λ y. 48 + y) e) ∙ sym (eq-eqb x v e))
    (λ (e : x ≡ v → ⊥). ne_eqb (48 + x) (48 + v) (λ q. e (omega arith)) ∙ sym (ne_eqb x v e))
    (cases_eq x v)

-- a row's own digits fit, and no other's
fits_own : (vs : List ℕ) → Binary vs → fits (leaf_digits (row_number vs) (length vs)) vs ≡ true
fits_own [] b = refl
fits_own (v ∷ vs) b =
    let r = row_number vs in
    let h = b 0 in
    let p : (v + 2 * r) % 2 ≡ v = omega arith in
    let q : (v + 2 * r) / 2 ≡ r = omega arith in
    and_from _ _ (digit_stands ((v + 2 * r) % 2) v ∙ eq-eqb _ v p) (ap (λ m. fits (leaf_digits m (length vs)) vs) q ∙ fits_own vs (λ k. b (suc k)))

fits_only : (m : ℕ) (vs : List ℕ) → m < 2 ^ length vs → fits (leaf_digits m (length vs)) vs ≡ true → m ≡ row_number vs
fits_only m [] l h = omega arith
fits_only m (v ∷ vs) l h =
    let p = and_parts (stands (48 + m % 2) v) (fits (leaf_digits (m / 2) (length vs)) vs) h in
    let e = eqb-true (m % 2) v (sym (digit_stands (m % 2) v) ∙ p.0) in
    let k : m < 2 ^ (length vs + 1) = rw (add-one (length vs)) l in
    let t = fits_only (m / 2) vs (omega (arith, k, pow_one (length vs))) p.1 in
    omega arith

gives_row : (n m : ℕ) (vs : List ℕ) → gives vs (row_words n m) ≡ fits (leaf_digits m n) vs
gives_row zero m vs = refl
gives_row (suc n) m vs =
    let ds = leaf_digits m (suc n) in
    let z = ne_eqb (suc n) 0 (λ q. omega arith) in
    ap (λ b. gives vs (cond b (codes "1" ∷ []) (ds ∷ codes "1" ∷ []))) z ∙ ap (λ x. fits x vs) (append-nil ds)

zero_or_one : (b : ℕ) → b ≤ 1 → (b ≡ 1 → ⊥) → 0 ≡ b
zero_or_one zero h k = refl
zero_or_one (suc b) h k = let e : b ≡ 0 = omega arith in absurd (k (ap suc e))

-- the rows of a table give the bit of the values' row
module _ (t : ℕ) (vs : List ℕ) (b : Binary vs) where
  abbrev on : ℕ → Bool
  on m = eqb (bit t m) 1

  abbrev row : ℕ
  row = row_number vs

  abbrev n : ℕ
  n = length vs

  fitting : some (λ m. fits (leaf_digits m n) vs) (on_rows t (2 ^ n)) ≡ on row
  fitting =
      let l = row_number_lt vs b in
      ⊎_elim
      (λ (h : on row ≡ true).
      in_some (λ m. fits (leaf_digits m n) vs) row (on_rows t (2 ^ n)) (in_keep on row (range_with_len 0 (2 ^ n)) (in_counting 0 (2 ^ n) row (omega arith) (omega arith)) h) (fits_own vs b) ∙ sym h)
      (λ (h : on row ≡ false).
      ⊎_elim
      (λ (s : some (λ m. fits (leaf_digits m n) vs) (on_rows t (2 ^ n)) ≡ true).
      let r = some_in (λ m. fits (leaf_digits m n) vs) (on_rows t (2 ^ n)) s in
      let k = keep_in on r.0 (range_with_len 0 (2 ^ n)) r.1 in
      let e = fits_only r.0 vs (omega (arith, counting_in 0 (2 ^ n) r.0 k.0)) r.2 in
      absurd (both_ways (on row) h (ap on (sym e) ∙ k.1)))
      (λ s. s ∙ sym h)
      (cases_Bool (some (λ m. fits (leaf_digits m n) vs) (on_rows t (2 ^ n)))))
      (cases_Bool (on row))

  pub table_value : cond (some (gives vs) (map (row_words n) (on_rows t (2 ^ n)))) 1 0 ≡ bit t row
  table_value =
      ap (λ x. cond x 1 0)
      (some_map (gives vs) (row_words n) (on_rows t (2 ^ n)) ∙ some_same (λ m. gives vs (row_words n m)) (λ m. fits (leaf_digits m n) vs) (on_rows t (2 ^ n)) (λ m i. gives_row n m vs) ∙ fitting)
      ∙ ⊎_elim
      (λ (h : on row ≡ true). cond-true (on row) 1 0 h ∙ sym (eqb-true (bit t row) 1 h))
      (λ (h : on row ≡ false).
      let small = bit_small t row in
      let other = eqb-false (bit t row) 1 h in
      let e : 0 ≡ bit t row = zero_or_one (bit t row) small other in
      cond-false (on row) 1 0 h ∙ e)
      (cases_Bool (on row))

-- the rows of an output give its literal's value
pub constant_value : (even : Bool) → ◌≡◌ {A = ℕ} (cond (some (gives []) (cond even [] ((codes "1" ∷ []) ∷ []))) 1 0) (cond even 0 1)
constant_value true = refl
constant_value false = refl

pub copy_value : (even : Bool) (v : ℕ) → v ≤ 1 → cond (some (gives (v ∷ [])) ((cond even (codes "1") (codes "0") ∷ codes "1" ∷ []) ∷ [])) 1 0 ≡ cond even v (1 - v)
copy_value true zero h = refl
copy_value true (suc v) h = let e : 0 ≡ v = omega arith in subst (λ (x : ℕ). cond (some (gives (suc x ∷ [])) ((codes "1" ∷ codes "1" ∷ []) ∷ [])) 1 0 ≡ suc x) e refl
copy_value false zero h = refl
copy_value false (suc v) h = let e : 0 ≡ v = omega arith in subst (λ (x : ℕ). cond (some (gives (suc x ∷ [])) ((codes "0" ∷ codes "1" ∷ []) ∷ [])) 1 0 ≡ 1 - suc x) e refl

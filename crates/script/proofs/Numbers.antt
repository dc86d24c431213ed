-- Reading a number digit by digit.
use Rattle.std.proofs.Common.{◌≡◌, ℕ, zero, suc, ◌+◌, ◌-◌, ◌*◌, ◌<◌, ◌≤◌, Bool, true, false, Option, Ok, Err, Result, List, [], ◌∷◌, length, get_or, decimal, sym, ap, ◌∙◌, subst, arith, rules}
use Rattle.std.proofs.lemmas.Str.Parse.{IsNumeralModel, numerals_by_fold}
use Rattle.std.proofs.lemmas.Fmt.{decimal_digit, decimal-digits_value, digits_value-decimal, digits_decimal, decimal_injective, decimal_nonempty, first_decimal}
use Rattle.std.specs.Result.{OkIff, result_ok}
use Rattle.script.specs.Fields.{are_digits}
use Rattle.script.specs.Reads.{Reads}

-- the number that n becomes when digits follow it
abbrev pub read_on : ℕ → List ℕ → ℕ
read_on n [] = n
read_on n (c ∷ cs) = read_on (n * 10 + (c - 48)) cs

pub own : IsNumeralModel (λ ds. are_digits ds ≡ true) (read_on 0)
own = numerals_by_fold _ (search rules) read_on (search rules)

pub read_grows : (n : ℕ) (ds : List ℕ) → n ≤ read_on n ds
read_grows n [] = omega arith
read_grows n (c ∷ cs) = let h = read_grows (n * 10 + (c - 48)) cs in omega arith

-- what is no digit is in no number
pub no_number : (ds : List ℕ) (x : ℕ) → x ≤ 65536 → false ≡ are_digits ds → decimal x ≡ ds → ⊥
no_number ds x small f e =
    let d : are_digits ds ≡ true = ap are_digits (sym e) ∙ digits_decimal own x (omega arith) in
    let z : ◌≡◌ {A = Bool} true false = sym d ∙ sym f in
    search rules

-- a number is not less than what is read of it so far
pub too_large : (ds rest : List ℕ) (n x : ℕ) → read_on n rest ≡ read_on 0 ds → 65536 < n → x ≤ 65536 → decimal x ≡ ds → ⊥
too_large ds rest n x e l f h =
    let v : read_on 0 ds ≡ x = ap (read_on 0) (sym h) ∙ digits_value-decimal own x (omega arith) in
    omega (arith, read_grows n rest)

pub read_all : (ds : List ℕ) (n : ℕ) → 0 < length ds → (get_or ds 0 0 ≡ 48 → length ds ≡ 1) → are_digits ds ≡ true → read_on 0 ds ≡ n → n ≤ 65536 → decimal n ≡ ds
read_all ds n some plain d e small =
    ap decimal (sym e) ∙ decimal-digits_value own ds d some plain (omega (arith, e))

-- a number of several digits does not begin with 0
pub not_plain : (ds : List ℕ) (x : ℕ) → x ≤ 65536 → get_or ds 0 0 ≡ 48 → 1 < length ds → decimal x ≡ ds → ⊥
not_plain ds zero small e l h = omega (arith, ap length h, ap length (decimal_digit 0 (omega arith)))
not_plain ds (suc x) small e l h = omega (arith, ap (λ t. get_or t 0 0) h, first_decimal (suc x) (omega arith) (omega arith))

pub not_empty : (ds : List ℕ) (x : ℕ) → x ≤ 65536 → length ds < 1 → decimal x ≡ ds → ⊥
not_empty ds x small e h = omega (arith, ap length h, decimal_nonempty x (omega arith))

-- a number read as one of fewer bits: it is refused where it does not fit
pub narrowed : {E : Type 0} (k : ℕ) (ds : List ℕ) (n : ℕ) (r : Result ℕ E) (o : Option ℕ) → k ≤ 65536 → (n ≤ 65536) × (decimal n ≡ ds) → OkIff r (n < k) n → o ≡ result_ok r → Reads (λ x. x < k) decimal ds o
narrowed k ds n (Ok x) o small h i e = subst (λ z. Reads (λ y. y < k) decimal ds z) (sym e) (subst (λ z. z < k) (sym i.1) i.0, ap decimal i.1 ∙ h.1)
narrowed k ds n (Err x) o small h i e =
    subst (λ z. Reads (λ y. y < k) decimal ds z) (sym e)
    (λ x l d. let same = decimal_injective x n (omega arith) (omega (arith, h.0)) (d ∙ sym h.1) in i (subst (λ z. z < k) same l))

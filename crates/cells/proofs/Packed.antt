-- A number made of bits: one bit more, its size, and each bit.
use Rattle.std.proofs.Common.{◌≡◌, ℕ, zero, suc, ◌+◌, ◌-◌, ◌*◌, ◌/◌, ◌%◌, ◌^◌, ◌<◌, ◌≤◌, sym, refl, ap, ◌∙◌, ⊎_elim, mod-eq_of_lt, mul_assoc, add_comm, add-one, one-add, arith, pow_mono}
use native.Mathlib.Nat.{add-mul-div_right, add-mul-mod_self_right, div-eq_of_lt}
use Rattle.std.proofs.lemmas.Nat.{pow_pos, pow-add, one_shl, shr_high, mod-pow-add}
use Rattle.std.proofs.lemmas.Bool.{cases_eq}
use Rattle.cells.specs.Truth.{packed, bit}

-- the rows of a table of n leaves, as a loop over `0..1 << n` has them
pub row_below : (n m w : ℕ) → n ≤ w → w < 32 → m < 1 * 2 ^ n % 2 ^ 32 → m < 2 ^ w
row_below n m w h k l = omega (arith, one_shl n 32 (omega arith), pow_mono h)

pub pow_one : (m : ℕ) → 2 ^ (m + 1) ≡ 2 ^ m + 2 ^ m
pow_one m = pow-add 2 m 1 ∙ (omega arith)

pub bit_lt : (t m b : ℕ) → t < 2 ^ m → b ≤ 1 → t + b * 2 ^ m < 2 ^ (m + 1)
bit_lt t m zero h k = rw (pow_one m) (omega arith)
bit_lt t m (suc b) h k = let e : b ≡ 0 = omega arith in rw (pow_one m, e) (omega arith)

pub packed_lt : (f : ℕ → ℕ) → ((m : ℕ) → f m ≤ 1) → (n : ℕ) → packed f n < 2 ^ n
packed_lt f s zero = omega arith
packed_lt f s (suc n) = rw (← add-one n) (bit_lt (packed f n) n (f n) (packed_lt f s n) (s n))

-- a bit below the last is not changed by it
pub bit_low : (t b n m : ℕ) → m < n → bit (t + b * 2 ^ n) m ≡ bit t m
bit_low t b n m h =
    let r = n - suc m in
    let e : n ≡ (r + 1) + m = omega arith in
    let p : b * 2 ^ n ≡ (b * 2 ^ r * 2) * 2 ^ m =
    ap (λ k. b * 2 ^ k) e ∙ ap (λ x. b * x) (pow-add 2 (r + 1) m ∙ ap (λ x. x * 2 ^ m) (pow-add 2 r 1))
    ∙ sym (mul_assoc b (2 ^ r * 2) (2 ^ m)) ∙ ap (λ x. x * 2 ^ m) (sym (mul_assoc b (2 ^ r) 2)) in
    ap (λ x. (t + x) / 2 ^ m % 2) p
    ∙ ap (λ x. x % 2) (add-mul-div_right t (b * 2 ^ r * 2) (pow_pos m))
    ∙ add-mul-mod_self_right (t / 2 ^ m) (b * 2 ^ r) 2

pub bit_high : (t b n : ℕ) → t < 2 ^ n → b ≤ 1 → bit (t + b * 2 ^ n) n ≡ b
bit_high t b n h k =
    ap (λ x. x / 2 ^ n % 2) (add_comm t (b * 2 ^ n)) ∙ ap (λ x. x % 2) (shr_high b n t h) ∙ mod-eq_of_lt (omega arith)

pub bit_packed : (f : ℕ → ℕ) → ((m : ℕ) → f m ≤ 1) → (n m : ℕ) → m < n → bit (packed f n) m ≡ f m
bit_packed f s zero m h = absurd (omega arith)
bit_packed f s (suc n) m h =
    ⊎_elim (λ (e : m ≡ n). rw e (bit_high (packed f n) (f n) n (packed_lt f s n) (s n)))
    (λ (g : m ≡ n → ⊥). bit_low (packed f n) (f n) n m (omega arith) ∙ bit_packed f s n m (omega arith))
    (cases_eq m n)

pub bit_above : (f : ℕ → ℕ) → ((m : ℕ) → f m ≤ 1) → (n m : ℕ) → n ≤ m → bit (packed f n) m ≡ 0
bit_above f s n m h =
    let l : packed f n < 2 ^ m = omega (arith, packed_lt f s n, pow_mono h) in
    ap (λ x. x % 2) (div-eq_of_lt l)

-- a number below 2^n is made of its bits
packed_mod : (t n : ℕ) → packed (bit t) n ≡ t % 2 ^ n
packed_mod t zero = omega arith
packed_mod t (suc n) =
    ap (λ x. x + bit t n * 2 ^ n) (packed_mod t n) ∙ add_comm (t % 2 ^ n) (bit t n * 2 ^ n) ∙ sym (mod-pow-add t 1 n) ∙ ap (λ k. t % 2 ^ k) (one-add n)

packed_same : (f g : ℕ → ℕ) (n : ℕ) → ((m : ℕ) → m < n → f m ≡ g m) → packed f n ≡ packed g n
packed_same f g zero h = refl
packed_same f g (suc n) h = let a = packed_same f g n (λ m l. h m (omega arith)) in let b = h n (omega arith) in cc

pub packed_is : (t n : ℕ) (f : ℕ → ℕ) → t < 2 ^ n → ((m : ℕ) → m < n → bit t m ≡ f m) → t ≡ packed f n
packed_is t n f l h = sym (mod-eq_of_lt l) ∙ sym (packed_mod t n) ∙ packed_same (bit t) f n h

-- One piece of text after another.
use Rattle.std.proofs.Common.{◌≡◌, ℕ, ◌+◌, ◌-◌, ◌/◌, ◌%◌, ◌^◌, ◌<◌, ◌≤◌, List, [], ◌∷◌, ◌++◌, length, decimal, take, drop, min, set, sym, refl, ap, ◌∙◌, subst, arith}
use Rattle.std.proofs.lemmas.List.{append-nil, append_assoc, length-append, length-drop, length-take-le, set_at, take-append-drop, take_at}
use Rattle.std.proofs.lemmas.Fmt.{decimal_digit, decimal_step}
use Rattle.pen.specs.declared.Pen.{Pen}
use Rattle.pen.specs.Wrote.{next_place, over, Wrote}

over_append : (out : List ℕ) (p : ℕ) (xs ys : List ℕ) → over out p (xs ++ ys) ≡ over (over out p xs).0 (over out p xs).1 ys
over_append out p [] ys = refl
over_append out p (x ∷ xs) ys = over_append (set out p x) (next_place p) xs ys

-- one text and then another
pub wrote_then : {o p q : Pen} {a b : List ℕ} → Wrote o a p → Wrote p b q → Wrote o (a ++ b) q
wrote_then {o} {p} {q} {a} {b} w v = record {
  same = v.same ∙ w.same;
  laid = v.laid ∙ ap (λ x. over x.0 x.1 b) w.laid ∙ sym (over_append o.out.now o.at a b);
}

pub wrote_is : {o p : Pen} {a b : List ℕ} → Wrote o a p → a ≡ b → Wrote o b p
wrote_is {o} {p} w e = subst (λ (x : List ℕ). Wrote o x p) e w

-- the pen by another name
pub wrote_as : {o p q : Pen} {a : List ℕ} → Wrote o a p → q ≡ p → Wrote o a q
wrote_as {o} {p} {q} {a} w e = subst (λ (x : Pen). Wrote o a x) (sym e) w

-- a number of more than one digit: the others, and the last
pub wrote_number : {o p q : Pen} {n : ℕ} → Wrote o (decimal (n / 10)) p → Wrote p ((48 + n % 10) ∷ []) q → 10 ≤ n → n < 2 ^ 64 → Wrote o (decimal n) q
wrote_number {o} {p} {q} {n} w v h k = wrote_is (wrote_then w v) (sym (decimal_step n h (omega arith)))

-- numbers of two and of three digits
pub decimal_two : (n : ℕ) → 10 ≤ n → n < 100 → (48 + n / 10) ∷ (48 + n % 10) ∷ [] ≡ decimal n
decimal_two n lo hi = sym (decimal_step n lo (omega arith) ∙ ap (λ l. l ++ (48 + n % 10) ∷ []) (decimal_digit (n / 10) (omega arith)))

pub decimal_three : (n : ℕ) → 100 ≤ n → n < 1000 → (48 + n / 100) ∷ (48 + n / 10 % 10) ∷ (48 + n % 10) ∷ [] ≡ decimal n
decimal_three n lo hi =
    let e : n / 100 ≡ n / 10 / 10 = omega arith in
    ap (λ k. (48 + k) ∷ (48 + n / 10 % 10) ∷ (48 + n % 10) ∷ []) e
    ∙ ap (λ l. l ++ (48 + n % 10) ∷ []) (decimal_two (n / 10) (omega arith) (omega arith))
    ∙ sym (decimal_step n (omega arith) (omega arith))

-- what is counted
over_count : (out : List ℕ) (p : ℕ) (bs : List ℕ) → p ≤ 2 ^ 64 - 1 → (over out p bs).1 ≡ min (p + length bs) (2 ^ 64 - 1)
over_count out p [] h = omega arith
over_count out p (b ∷ bs) h =
    over_count (set out p b) (next_place p) bs (omega arith) ∙ (omega arith)

-- a text that fits
over_fits : (xs out bs : List ℕ) (p : ℕ) → length xs ≡ p → length bs ≤ length out → p + length out < 2 ^ 64 → (over (xs ++ out) p bs).0 ≡ xs ++ bs ++ drop (length bs) out
over_fits xs out [] p e h k = ap (λ ys. ys ++ out) (sym (append-nil xs))
over_fits xs [] (b ∷ bs) p e h k = absurd (omega arith)
over_fits xs (y ∷ ys) (b ∷ bs) p e h k =
    let q : next_place p ≡ p + 1 = omega arith in
    ap (λ zs. (over zs (next_place p) bs).0) (set_at xs y ys b p e ∙ sym (append_assoc xs (b ∷ []) ys))
    ∙ over_fits (xs ++ b ∷ []) ys bs (next_place p) (length-append xs (b ∷ []) ∙ (omega arith)) (omega arith) (omega arith)
    ∙ ap (λ zs. zs ++ drop (length bs) ys) (append_assoc xs (b ∷ []) bs)

-- a text that fits behind the place
pub over_there : (out bs : List ℕ) (p : ℕ) → p + length bs ≤ length out → length out < 2 ^ 64 → over out p bs ≡ (take p out ++ (bs ++ drop (length bs) (drop p out)), p + length bs)
over_there out bs p h k =
    let long = length-drop p out in
    let laid : (over out p bs).0 ≡ take p out ++ (bs ++ drop (length bs) (drop p out)) =
    ap (λ xs. (over xs p bs).0) (sym (take-append-drop p out)) ∙ over_fits (take p out) (drop p out) bs p (length-take-le p out (omega arith)) (omega arith) (omega arith) ∙ append_assoc (take p out) bs (drop (length bs) (drop p out)) in
    let count : (over out p bs).1 ≡ p + length bs = over_count out p bs (omega arith) ∙ (omega arith) in
    λ i. (laid i, count i)

wrote_count : {o p : Pen} {bs : List ℕ} → Wrote o bs p → o.at ≡ 0 → p.at ≡ min (length bs) (2 ^ 64 - 1)
wrote_count {o} {p} {bs} w e = ap (λ x. x.1) w.laid ∙ over_count o.out.now o.at bs (omega arith) ∙ (omega (arith, e))

-- from the buffer's start: a count above n says that there are more than n bytes
pub wrote_more : {o p : Pen} {bs : List ℕ} (n : ℕ) → Wrote o bs p → o.at ≡ 0 → n < p.at → n < length bs
wrote_more n w e h = let count = wrote_count w e in omega arith

-- a count that a buffer can have says how many there are
pub wrote_within : {o p : Pen} {bs : List ℕ} (n : ℕ) → Wrote o bs p → o.at ≡ 0 → p.at ≤ n → n < 2 ^ 63 → p.at ≡ length bs
wrote_within n w e h k = let count = wrote_count w e in omega arith

-- and what the buffer holds, where they fit
pub wrote_all : {o p : Pen} {bs out : List ℕ} → Wrote o bs p → o.at ≡ 0 → o.out.now ≡ out → length bs ≤ length out → length out < 2 ^ 64 → p.out.now ≡ bs ++ drop (length bs) out
wrote_all {o} {p} {bs} {out} w e f h k =
    ap (λ x. x.0) w.laid ∙ (λ i. (over (f i) o.at bs).0) ∙ over_fits [] out bs o.at (sym e) h (omega arith)

-- Where a text fits a buffer, and the pen is let go: xs is what the buffer holds then.

pub wrote_at : {o p : Pen} {bs : List ℕ} → Wrote o bs p → o.at ≡ 0 → length bs < 2 ^ 63 → p.at ≡ length bs
wrote_at w e h = omega (arith, wrote_count w e)

-- it begins with the text
pub wrote_front : {o p : Pen} {bs out xs : List ℕ} → Wrote o bs p → o.at ≡ 0 → o.out.now ≡ out → length bs ≤ length out → length out < 2 ^ 63 → xs ≡ p.out.now → take p.at xs ≡ bs
wrote_front {o} {p} {bs} {out} w e f h k same =
    ap (take p.at) (same ∙ wrote_all w e f h (omega arith)) ∙ take_at bs (drop (length bs) out) p.at (sym (wrote_at w e (omega arith)))

-- and has the pen's place, or ends there
pub wrote_room : {o p : Pen} {bs out xs : List ℕ} → Wrote o bs p → o.at ≡ 0 → o.out.now ≡ out → length bs ≤ length out → length out < 2 ^ 63 → xs ≡ p.out.now → p.at ≤ length xs
wrote_room {o} {p} {bs} {out} w e f h k same =
    let long = ap length (same ∙ wrote_all w e f h (omega arith)) in
    omega (arith, long, wrote_at w e (omega arith), length-append bs (drop (length bs) out), length-drop (length bs) out)

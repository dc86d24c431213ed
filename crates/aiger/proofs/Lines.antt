-- A line and its numbers: what is scanned is what is written, and what is written is scanned.
use Rattle.std.proofs.Common.{◌≡◌, ℕ, ◌+◌, ◌-◌, ◌*◌, ◌/◌, ◌%◌, ◌<◌, ◌≤◌, true, ◌&&◌, eqb, ltb, List, [], ◌∷◌, ◌++◌, length, Some, None, decimal, Option, sym, refl, ap, ◌∙◌, append_assoc, arith}
use Rattle.std.specs.List.{flat_map, AllByRecursion as All}
use Rattle.std.proofs.lemmas.Fmt.{decimal_digit, decimal_step, decimal_by_steps}
use Rattle.std.proofs.lemmas.List.{length_push, flat_map_more}
use Rattle.std.proofs.lemmas.Bool.{cond_both, cond-true, cond-false, and_parts, and_from, leb-true, ltb-true, eqb-true, eqb-false, le-leb, lt-ltb, ne_eqb}
use Rattle.aiger.specs.Text.{line_of}
use Rattle.aiger.specs.Reads.{Act, Digit, Space, Newline, Stop, act, is_digit, Scan, broken, whole, scan}

-- the digits of a number so far
abbrev pub sofar : Option ℕ → List ℕ
sofar None = []
sofar (Some v) = decimal v

-- what a byte tells
abbrev pub Says : ℕ → Option ℕ → ℕ → Act → Type 0
Says more number b (Digit v) = (sofar number ++ b ∷ [] ≡ decimal v) × (v < 1000) × (48 ≤ b)
Says more number b (Space v) = (number ≡ Some v) × (b ≡ 32) × (0 < more)
Says more number b (Newline v) = (number ≡ Some v) × (b ≡ 10) × (more ≡ 0)
Says more number b Stop = Unit {0}

digit_range : (b : ℕ) → is_digit b ≡ true → (48 ≤ b) × (b < 58)
digit_range b e = let h = and_parts _ _ e in (leb-true _ _ h.0, ltb-true _ _ h.1)

grow : (v b : ℕ) → 48 ≤ b → b < 58 → 0 < v → v < 100 → decimal v ++ b ∷ [] ≡ decimal (10 * v + (b - 48))
grow v b lo hi p q =
    let n : ℕ = 10 * v + (b - 48) in
    let e₁ : n / 10 ≡ v = omega arith in
    let e₂ : 48 + n % 10 ≡ b = omega arith in
    let s = decimal_step n (omega arith) (omega arith) in
    sym (s ∙ (λ i. decimal (e₁ i) ++ e₂ i ∷ []))

begin : (b : ℕ) → 48 ≤ b → b < 58 → b ∷ [] ≡ decimal (b - 48)
begin b lo hi =
    let e : 48 + (b - 48) ≡ b = omega arith in
    sym (decimal_digit (b - 48) (omega arith) ∙ ap (λ x. x ∷ []) e)

pub act_says : (more : ℕ) (number : Option ℕ) (b : ℕ) → Says more number b (act more number b)
act_says more None b =
    cond_both (is_digit b) _ _ (Says more None b)
    (λ e. let r = digit_range b e in (begin b r.0 r.1, omega arith, r.0))
    (λ _. tt)
act_says more (Some v) b =
    cond_both (is_digit b) _ _ (Says more (Some v) b)
    (λ e.
    let r = digit_range b e in
    cond_both (ltb 0 v && ltb v 100) _ _ (Says more (Some v) b)
    (λ h.
    let p = and_parts _ _ h in
    let lo = ltb-true _ _ p.0 in
    let hi = ltb-true _ _ p.1 in
    (grow v b r.0 r.1 lo hi, omega arith, r.0))
    (λ _. tt))
    (λ _.
    cond_both (eqb more 0) _ _ (Says more (Some v) b)
    (λ z. cond_both (eqb b 10) _ _ (Says more (Some v) b) (λ e. (refl, eqb-true _ _ e, eqb-true _ _ z)) (λ _. tt))
    (λ z.
    cond_both (eqb b 32) _ _ (Says more (Some v) b)
    (λ e. let ne = eqb-false _ _ z in (refl, eqb-true _ _ e, omega arith))
    (λ _. tt)))

-- the bytes of some lines, and then of others
pub joined_append : (xs ys : List (List ℕ)) → flat_map line_of (xs ++ ys) ≡ flat_map line_of xs ++ flat_map line_of ys
joined_append [] ys = refl
joined_append (x ∷ xs) ys = ap (λ l. line_of x ++ l) (joined_append xs ys) ∙ sym (append_assoc (line_of x) (flat_map line_of xs) (flat_map line_of ys))

-- From the bytes to the numbers.

abbrev spaced : ℕ → List ℕ
spaced n = decimal n ++ 32 ∷ []

line_snoc : (done : List ℕ) (v : ℕ) → line_of (done ++ v ∷ []) ≡ flat_map spaced done ++ (decimal v ++ 10 ∷ [])
line_snoc [] v = refl
line_snoc (n ∷ []) v = simp append_assoc
line_snoc (n ∷ m ∷ ms) v = ap (λ l. decimal n ++ 32 ∷ l) (line_snoc (m ∷ ms) v) ∙ simp append_assoc

abbrev pub turn : ℕ → List ℕ → ℕ → List ℕ → Act → Scan
turn more done pos bs (Digit v) = scan more done (Some v) (pos + 1) bs
turn more done pos bs (Space v) = scan (more - 1) (done ++ v ∷ []) None (pos + 1) bs
turn more done pos bs (Newline v) = whole (done ++ v ∷ []) (pos + 1) bs
turn more done pos bs Stop = broken pos

pub scan_turn : (more : ℕ) (done : List ℕ) (number : Option ℕ) (pos b : ℕ) (bs : List ℕ) → scan more done number pos (b ∷ bs) ≡ turn more done pos bs (act more number b)
unfolding scan
scan_turn more done number pos b bs = refl

-- what a scanned line says of its bytes
pub record Back (more : ℕ) (done : List ℕ) (number : Option ℕ) (bs ns rest : List ℕ) : Type 0 where
  pub bytes : flat_map spaced done ++ (sofar number ++ bs) ≡ line_of ns ++ rest
  pub count : length ns ≡ length done + 1 + more

broken_whole : {A : Type 0} {p q : ℕ} {ns rest : List ℕ} → broken p ≡ whole ns q rest → A
broken_whole e = let z : ◌≡◌ {A = ℕ} 0 1 = cc in absurd (omega arith)

module _ (more : ℕ) (done : List ℕ) (number : Option ℕ) (pos b : ℕ) (bs ns : List ℕ) (p : ℕ) (rest : List ℕ) where
  back_turn : (a : Act) → Says more number b a → turn more done pos bs a ≡ whole ns p rest
      → ((more' : ℕ) (done' : List ℕ) (number' : Option ℕ) → scan more' done' number' (pos + 1) bs ≡ whole ns p rest → Back more' done' number' bs ns rest)
      → Back more done number (b ∷ bs) ns rest
  back_turn (Digit v) s e ih =
      let r = ih more done (Some v) e in
      record {
        bytes = ap (λ l. flat_map spaced done ++ l) (sym (append_assoc (sofar number) (b ∷ []) bs) ∙ ap (λ l. l ++ bs) s.0) ∙ r.bytes;
        count = r.count;
      }
  back_turn (Space v) s e ih =
      let r = ih (more - 1) (done ++ v ∷ []) None e in
      let same : flat_map spaced done ++ (sofar number ++ b ∷ bs) ≡ flat_map spaced (done ++ v ∷ []) ++ bs = (λ i. flat_map spaced done ++ (sofar (s.0 i) ++ s.1 i ∷ bs)) ∙ (simp append_assoc) ∙ ap (λ l. l ++ bs) (flat_map_more spaced [] done v) in
      record { bytes = same ∙ r.bytes; count = omega (arith, r.count, length_push done v) }
  back_turn (Newline v) s e ih =
      let ens : done ++ v ∷ [] ≡ ns = cc in
      let ers : bs ≡ rest = cc in
      record {
        bytes = (λ i. flat_map spaced done ++ (sofar (s.0 i) ++ s.1 i ∷ ers i)) ∙ (simp append_assoc) ∙ ap (λ l. l ++ rest) (sym (line_snoc done v)) ∙ ap (λ l. line_of l ++ rest) ens;
        count = omega (arith, ap length ens, length_push done v);
      }
  back_turn Stop s e ih = broken_whole e

pub scan_back : (more : ℕ) (done : List ℕ) (number : Option ℕ) (pos : ℕ) (bs ns : List ℕ) (p : ℕ) (rest : List ℕ) → scan more done number pos bs ≡ whole ns p rest → Back more done number bs ns rest
unfolding scan
scan_back more done number pos [] ns p rest e = broken_whole e
scan_back more done number pos (b ∷ bs) ns p rest e =
    back_turn more done number pos b bs ns p rest (act more number b) (act_says more number b) e
    (λ more' done' number' e'. scan_back more' done' number' (pos + 1) bs ns p rest e')

-- From the numbers to the bytes.

act_first : (more n : ℕ) → n < 10 → act more None (48 + n) ≡ Digit n
act_first more n h =
    let e : 48 + n - 48 ≡ n = omega arith in
    cond-true _ _ _ (and_from _ _ (le-leb 48 (48 + n) (omega arith)) (lt-ltb (48 + n) 58 (omega arith))) ∙ ap Digit e

act_more : (more n : ℕ) → 10 ≤ n → n < 1000 → act more (Some (n / 10)) (48 + n % 10) ≡ Digit n
act_more more n lo hi =
    let e : 10 * (n / 10) + (48 + n % 10 - 48) ≡ n = omega arith in
    cond-true _ _ _ (and_from _ _ (le-leb 48 (48 + n % 10) (omega arith)) (lt-ltb (48 + n % 10) 58 (omega arith)))
    ∙ cond-true _ _ _ (and_from _ _ (lt-ltb 0 (n / 10) (omega arith)) (lt-ltb (n / 10) 100 (omega arith))) ∙ ap Digit e

module _ (more : ℕ) (done : List ℕ) where
  abbrev Scanned : ℕ → List ℕ → Type 0
  Scanned n ds = n < 1000 → (pos : ℕ) (bs : List ℕ) → scan more done None pos (ds ++ bs) ≡ scan more done (Some n) (pos + length ds) bs

  scan_decimal : (n : ℕ) → n < 1000 → (pos : ℕ) (bs : List ℕ) → scan more done None pos (decimal n ++ bs) ≡ scan more done (Some n) (pos + length (decimal n)) bs
  scan_decimal n h =
      decimal_by_steps Scanned
      (λ n small _ pos bs. scan_turn more done None pos (48 + n) bs ∙ ap (turn more done pos bs) (act_first more n small))
      (λ n ds big ih fits pos bs.
      let c : ℕ = 48 + n % 10 in
      let q = pos + length ds in
      let e : q + 1 ≡ pos + length (ds ++ c ∷ []) = omega (arith, length_push ds c) in
      ap (scan more done None pos) (append_assoc ds (c ∷ []) bs) ∙ ih (omega arith) pos (c ∷ bs) ∙ scan_turn more done (Some (n / 10)) q c bs ∙ ap (turn more done q bs) (act_more more n big fits) ∙ ap (λ p. scan more done (Some n) p bs) e)
      n (omega arith) h

-- a line that is written is scanned, up to some place
pub scan_line : (done : List ℕ) (n : ℕ) (ms : List ℕ) (more pos : ℕ) (rest : List ℕ) → All (λ x. x < 1000) (n ∷ ms) → length ms ≡ more → (p : ℕ) × (scan more done None pos (line_of (n ∷ ms) ++ rest) ≡ whole (done ++ n ∷ ms) p rest)
scan_line done n [] more pos rest small e =
    let q = pos + length (decimal n) in
    let z : more ≡ 0 = sym e in
    (q + 1, ap (scan more done None pos) (append_assoc (decimal n) (10 ∷ []) rest) ∙ scan_decimal more done n small.0 pos (10 ∷ rest) ∙ scan_turn more done (Some n) q 10 rest ∙ ap (λ m. turn m done q rest (act m (Some n) 10)) z)
scan_line done n (m ∷ ms) more pos rest small e =
    let q = pos + length (decimal n) in
    let tail = line_of (m ∷ ms) ++ rest in
    let one : more - 1 ≡ length ms = omega arith in
    let is : act more (Some n) 32 ≡ Space n = cond-false _ _ _ (ne_eqb more 0 (omega arith)) in
    let go = scan_line (done ++ n ∷ []) m ms (more - 1) (q + 1) rest small.1 (sym one) in
    (go.0, ap (scan more done None pos) (append_assoc (decimal n) (32 ∷ line_of (m ∷ ms)) rest) ∙ scan_decimal more done n small.0 pos (32 ∷ tail) ∙ scan_turn more done (Some n) q 32 tail ∙ ap (turn more done q tail) is ∙ go.1 ∙ ap (λ l. whole l go.0 rest) (append_assoc done (n ∷ []) (m ∷ ms)))

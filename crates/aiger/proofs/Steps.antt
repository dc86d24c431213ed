-- What a byte does to a line.
use Rattle.std.proofs.Common.{◌≡◌, ℕ, ◌+◌, ◌-◌, ◌<◌, false, cond, eqb, ◌⊎◌, List, [], ◌∷◌, ◌++◌, length, Some, None, Option, sym, refl, ap, ◌∙◌, arith}
use Rattle.std.proofs.lemmas.List.{length_push}
use Rattle.std.proofs.lemmas.Bool.{eq-eqb, ne_eqb, cond_both, cond-true, cond-false}
use Rattle.std.proofs.lemmas.Bool.Decides.{nat_tests}
use Rattle.drawing.specs.declared.refusal.Fault.{Fault}
use Rattle.aiger.specs.declared.line.Line.{Line}
use Rattle.aiger.specs.Reads.{Act, Digit, Space, Newline, Stop, is_digit, act, scan, whole}
use Rattle.aiger.specs.States.{broken_at, scan_on, Stays, Goes, Closes, Breaks}
use Rattle.aiger.proofs.Lines.{turn, scan_turn}

act_space : (more v : ℕ) → 0 < more → act more (Some v) 32 ≡ Space v
act_space more v h = cond-false _ _ _ (ne_eqb more 0 (omega arith))

act_newline : (more v : ℕ) → more ≡ 0 → act more (Some v) 10 ≡ Newline v
act_newline more v e = cond-true _ _ _ (eq-eqb more 0 e)

-- a space behind the last number, or the line's end before it
last_space : (more : ℕ) (number : Option ℕ) → more ≡ 0 → act more number 32 ≡ Stop
last_space more None e = refl
last_space more (Some v) e = cond-true _ _ _ (eq-eqb more 0 e)

early_newline : (more : ℕ) (number : Option ℕ) → 0 < more → act more number 10 ≡ Stop
early_newline more None h = refl
early_newline more (Some v) h = cond-false _ _ _ (ne_eqb more 0 (omega arith))

-- a byte that is no digit, no space and no line's end
no_digit : (b : ℕ) → (b < 48) ⊎ (57 < b) → is_digit b ≡ false
no_digit b h = grind (arith, nat_tests)

other_byte : (more : ℕ) (number : Option ℕ) (b : ℕ) → is_digit b ≡ false → (b ≡ 32 → ⊥) → (b ≡ 10 → ⊥) → act more number b ≡ Stop
other_byte more None b d s n = cond-false _ _ _ d
other_byte more (Some v) b d s n =
    cond-false _ _ _ d
    ∙ cond_both (eqb more 0) (cond (eqb b 10) (Newline v) Stop) (cond (eqb b 32) (Space v) Stop) (λ x. x ≡ Stop) (λ _. cond-false _ _ _ (ne_eqb b 10 n)) (λ _. cond-false _ _ _ (ne_eqb b 32 s))

module _ (l : Line) (b : ℕ) where
  scans : (a : Act) → act l.more l.number b ≡ a → (bs : List ℕ) → scan_on l (b ∷ bs) ≡ turn l.more l.numbers.items l.pos bs a
  scans a e bs = scan_turn l.more l.numbers.items l.number l.pos b bs ∙ ap (turn l.more l.numbers.items l.pos bs) e

  pub stops : (f : Fault) → f ≡ broken_at l → act l.more l.number b ≡ Stop → Breaks l b f
  stops f is e = record { is = is; same = scans Stop e }

  pub grows : (v : ℕ) (m : Line) → act l.more l.number b ≡ Digit v → Stays l m → m.more ≡ l.more → m.numbers ≡ l.numbers → m.number ≡ Some v → Goes l b m
  grows v m e stays more numbers number =
      record {
        stays = stays;
        fields = λ i. length (numbers i).items + more i;
        same = λ bs. scans (Digit v) e bs ∙ (λ i. scan (sym more i) (sym numbers i).items (sym number i) (l.pos + 1) bs);
      }

module _ (l : Line) (f : Fault) (is : f ≡ broken_at l) where
  pub other : (b : ℕ) → (b < 48) ⊎ (57 < b) → (b ≡ 32 → ⊥) → (b ≡ 10 → ⊥) → Breaks l b f
  other b d s n = stops l b f is (other_byte l.more l.number b (no_digit b d) s n)

  pub space_last : l.more ≡ 0 → Breaks l 32 f
  space_last e = stops l 32 f is (last_space l.more l.number e)

  pub newline_early : 0 < l.more → Breaks l 10 f
  newline_early h = stops l 10 f is (early_newline l.more l.number h)

  -- no number has begun
  pub space_first : l.number ≡ None → Breaks l 32 f
  space_first e = stops l 32 f is (ap (λ n. act l.more n 32) e)

  pub newline_first : l.number ≡ None → Breaks l 10 f
  newline_first e = stops l 10 f is (ap (λ n. act l.more n 10) e)

-- the number v is whole, and ns are the numbers with it
module _ (l : Line) (v : ℕ) (is : l.number ≡ Some v) (ns : List ℕ) (put : ns ≡ l.numbers.items ++ v ∷ []) where
  pub spaces : (b : ℕ) → b ≡ 32 → (m : Line) → Stays l m → m.more ≡ l.more - 1 → m.numbers.items ≡ ns → m.number ≡ None → 0 < l.more → Goes l b m
  spaces b byte m stays more items number h =
      record {
        stays = stays;
        fields = omega (arith, ap length (items ∙ put), length_push l.numbers.items v);
        same = λ bs.
            ap (λ x. scan_on l (x ∷ bs)) byte ∙ scans l 32 (Space v) (ap (λ n. act l.more n 32) is ∙ act_space l.more v h) bs
            ∙ (λ i. scan (sym more i) (sym (items ∙ put) i) (sym number i) (l.pos + 1) bs);
      }

  pub closes_line : (m : Line) → Stays l m → m.numbers.items ≡ [] → m.number ≡ None → l.more ≡ 0 → Closes l ns m
  closes_line m stays items number e =
      record {
        stays = stays;
        fields = omega (arith, ap length put, length_push l.numbers.items v);
        same = λ bs.
            scans l 10 (Newline v) (ap (λ n. act l.more n 10) is ∙ act_newline l.more v e) bs
            ∙ ap (λ d. whole d (l.pos + 1) bs) (sym put);
        empty = (items, number);
      }

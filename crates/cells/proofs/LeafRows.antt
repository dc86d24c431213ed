-- The row that the leaves' values make, leaf by leaf from the last.
use Rattle.std.proofs.Common.{◌≡◌, ℕ, ◌+◌, ◌*◌, ◌%◌, ◌^◌, ◌<◌, ◌≤◌, List, [], ◌∷◌, length, fold, reverse, refl, ap, ◌∙◌, add-one, arith, pow_mono}
use lib.Bits.{bit_or}
use Rattle.std.proofs.lemmas.Nat.{shl_whole, or_shifted}
use Rattle.std.proofs.lemmas.List.Sums.{fold_push}
use Rattle.std.proofs.lemmas.Grind.{reverse_onto}
use Rattle.cells.specs.Limits.{table_bits}
use Rattle.drawing.specs.Drawing.{most_leaves}
use Rattle.cells.specs.Netlist.{plain, row_of}
use Rattle.cells.proofs.Packed.{pow_one}

module _ (f : ℕ → ℕ) (small : (n : ℕ) → f n ≤ 1) where
  pub row_lt : (ls : List ℕ) → row_of f ls < 2 ^ length ls
  row_lt [] = omega arith
  row_lt (l ∷ ls) = rw (← add-one (length ls)) (omega (arith, pow_one (length ls), small (plain l), row_lt ls))

  pub row_few : (ls : List ℕ) → length ls ≤ most_leaves → row_of f ls < table_bits
  row_few ls h = omega (arith, row_lt ls, pow_mono h)

  -- `(row << 1) | v`
  or_low : (m v : ℕ) → m < table_bits → v ≤ 1 → bit_or (m * 2 % 2 ^ 32) v ≡ v + 2 * m
  or_low m v h k =
      let e : m * 2 % 2 ^ 32 ≡ m * 2 = shl_whole m 31 1 32 (omega arith) (omega arith) in
      ap (λ x. bit_or x v) e ∙ or_shifted m 1 v (omega arith) ∙ (omega arith)

  -- the row of few leaves, as a fold over them from the last
  pub row_folded : (ls : List ℕ) → length ls ≤ most_leaves → fold (λ m l. bit_or (m * 2 % 2 ^ 32) (f (plain l))) 0 (reverse ls) ≡ row_of f ls
  row_folded [] h = refl
  row_folded (l ∷ ls) h =
      let t = row_folded ls (omega arith) in
      let b : row_of f ls < table_bits = row_few ls (omega arith) in
      ap (fold (λ m l. bit_or (m * 2 % 2 ^ 32) (f (plain l))) 0) (reverse_onto ls l [])
      ∙ fold_push (λ m l. bit_or (m * 2 % 2 ^ 32) (f (plain l))) 0 (reverse ls) l
      ∙ ap (λ m. bit_or (m * 2 % 2 ^ 32) (f (plain l))) t
      ∙ or_low (row_of f ls) (f (plain l)) b (small (plain l))

pub row_same : (f g : ℕ → ℕ) → ((n : ℕ) → f n ≡ g n) → (ls : List ℕ) → row_of f ls ≡ row_of g ls
row_same f g e [] = refl
row_same f g e (l ∷ ls) = let h = e (plain l) in let t = row_same f g e ls in cc

-- The laws of a cell's table: each bit, and that it is filled.
use Rattle.std.proofs.Common.{◌≡◌, ℕ, ◌/◌, ◌%◌, ◌^◌, ◌<◌, ◌≤◌, true, eqb, ltb, List, [], ◌∷◌, length, drop, replicate, sym, refl, ◌∙◌, ⊎_elim, arith, pow_mono}
use Rattle.std.specs.List.{range_with_len}
use Rattle.std.proofs.lemmas.Nat.{mod_below}
use Rattle.std.proofs.lemmas.List.{take_at}
use Rattle.std.proofs.lemmas.Bool.{cond_both, cond-true, cond-false, lt-ltb, le-ltb, eq-eqb, cases_lt}
use Rattle.drawing.specs.declared.node.Node.{Node}
use Rattle.drawing.specs.Values.{lookup}
use Rattle.drawing.proofs.Members.{in_every, counting_in}
use Rattle.drawing.proofs.ValueLaws.{binary_column, valuing_small}
use Rattle.cells.specs.Limits.{table_bits}
use Rattle.drawing.specs.Drawing.{most_leaves}
use Rattle.cells.specs.Truth.{bit, leaf_bits, unset, coning, cone, table_bit, table_of, filled}
use Rattle.cells.specs.Netlist.{leaves_of, cell_of}
use Rattle.cells.proofs.Packed.{bit_packed, bit_above}

leaf_small : (ls : List ℕ) (m n d : ℕ) → d ≤ 1 → lookup (leaf_bits ls m) n d ≤ 1
leaf_small [] m n d h = h
leaf_small (l ∷ ls) m n d h =
    cond_both (eqb l n) (m % 2) (lookup (leaf_bits ls (m / 2)) n d) (λ x. x ≤ 1) (λ _. omega (arith, mod_below m 2)) (λ _. leaf_small ls (m / 2) n d h)

pub cone_small : (nodes : List Node) (ls : List ℕ) (root m : ℕ) → cone nodes ls root m ≤ 1
cone_small nodes ls root m =
    binary_column (coning (leaf_bits ls m)) (λ lower n b. leaf_small ls m _ _ (valuing_small unset (λ _. omega arith) lower n b)) nodes root

-- The filling of a table: a row that there is has its own bit, rows alone decide every bit, and bits are 0 or 1.
pub table_bit_row : (n : ℕ) (f : ℕ → ℕ) (m : ℕ) → m < 2 ^ n → table_bit n f m ≡ f m
table_bit_row n f m h = cond-true _ _ _ (lt-ltb m (2 ^ n) h)

pub table_bit_same : (n : ℕ) (f g : ℕ → ℕ) (m : ℕ) → ((k : ℕ) → k < 2 ^ n → f k ≡ g k) → table_bit n f m ≡ table_bit n g m
table_bit_same n f g m h =
    ⊎_elim (λ l. table_bit_row n f m l ∙ h m l ∙ sym (table_bit_row n g m l))
    (λ (l : 2 ^ n ≤ m). cond-false (ltb m (2 ^ n)) (f m) 0 (le-ltb m (2 ^ n) l) ∙ sym (cond-false (ltb m (2 ^ n)) (g m) 0 (le-ltb m (2 ^ n) l)))
    (cases_lt m (2 ^ n))

pub table_bit_small : (n : ℕ) (f : ℕ → ℕ) (m : ℕ) → ((k : ℕ) → f k ≤ 1) → table_bit n f m ≤ 1
table_bit_small n f m s = cond_both (ltb m (2 ^ n)) (f m) 0 (λ x. x ≤ 1) (λ _. s m) (λ _. omega arith)

pub table_bit_above : (n : ℕ) (f : ℕ → ℕ) (m : ℕ) → 2 ^ n ≤ m → table_bit n f m ≡ 0
table_bit_above n f m l = cond-false _ _ _ (le-ltb m (2 ^ n) l)

module _ (nodes : List Node) (ls : List ℕ) (root : ℕ) where
  abbrev pub bits : ℕ → ℕ
  bits m = table_bit (length ls) (cone nodes ls root) m

  bits_small : (m : ℕ) → bits m ≤ 1
  bits_small m = table_bit_small (length ls) (cone nodes ls root) m (cone_small nodes ls root)

  table_bit_at : (m : ℕ) → m < table_bits → bit (table_of nodes ls root) m ≡ bits m
  unfolding table_of
  table_bit_at m h = bit_packed bits bits_small table_bits m h

  -- the bit of a row is the root's value in that row
  pub table_row : (m : ℕ) → length ls ≤ most_leaves → m < 2 ^ length ls → bit (table_of nodes ls root) m ≡ cone nodes ls root m
  table_row m few h = table_bit_at m (omega (arith, pow_mono few)) ∙ table_bit_row (length ls) (cone nodes ls root) m h

  pub table_above : (m : ℕ) → 2 ^ length ls ≤ m → bit (table_of nodes ls root) m ≡ 0
  unfolding table_of
  table_above m h =
      ⊎_elim (λ (l : m < table_bits). bit_packed bits bits_small table_bits m l ∙ table_bit_above (length ls) (cone nodes ls root) m h)
      (λ (l : table_bits ≤ m). bit_above bits bits_small table_bits m l)
      (cases_lt m table_bits)

  pub table_filled : length ls ≤ most_leaves → filled (length ls) (table_of nodes ls root) ≡ true
  unfolding filled
  table_filled few =
      let t = table_of nodes ls root in
      in_every (λ m. eqb (bit t m) (table_bit (length ls) (bit t) m)) (range_with_len 0 table_bits)
      (λ m i. eq-eqb (bit t m) (table_bit (length ls) (bit t) m)
      (table_bit_at m (omega (arith, counting_in 0 table_bits m i)) ∙ table_bit_same (length ls) (cone nodes ls root) (bit t) m (λ k h. sym (table_row k few h))))

pub leaves_of_cell : (nodes : List Node) (root : ℕ) (ls : List ℕ) → leaves_of (cell_of nodes root ls) ≡ ls
leaves_of_cell nodes root ls = take_at ls (drop (length ls) (replicate most_leaves 0)) (length ls) refl

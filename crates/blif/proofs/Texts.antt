-- One more name, digit, line or section.
use Rattle.std.proofs.Common.{◌≡◌, ℕ, zero, suc, ◌+◌, ◌-◌, ◌/◌, ◌%◌, ◌<◌, ◌≤◌, false, cond, eqb, ltb, leb, List, drop, is_ok, Ok, Err, [], ◌∷◌, ◌++◌, map, length, get_or, take, codes, decimal, sym, refl, ap, ◌∙◌, add-zero, zero-add, add-one, arith}
use Rattle.std.specs.List.{range_with_len, flat_map}
use Rattle.std.proofs.lemmas.List.FromFn.{map-range_with_len_more}
use Rattle.std.proofs.lemmas.List.Elements.{filter-append}
use Rattle.std.proofs.lemmas.List.{map-id, map_more, flat_map_more, length-append, length-map, get_or-map, get_or_append_left, get_or-append_right, get_or_at, append-nil}
use Rattle.std.proofs.lemmas.Bool.{cond-true, cond-false, cond_both, ltb-true, ltb-false, lt-ltb, lt-leb, le-leb}
use Rattle.std.proofs.lemmas.Fmt.{decimal_digit, decimal_step}
use Rattle.drawing.specs.Sets.{keep}
use Rattle.cells.specs.declared.cell.Cell.{Cell}
use Rattle.cells.specs.Truth.{bit}
use Rattle.cells.specs.Netlist.{Netlist}
use Rattle.cells.proofs.Words.{bit_first, bit_half}
use Rattle.blif.specs.Text.{number, node_name, output_name, spaced, node_names, output_names, leaf_digits, line, on_rows, cell_text, output_text, output_texts}
use Rattle.drawing.specs.declared.refusal.Refusal.TheVariants.{TooShort}
use Rattle.blif.specs.Sections.{section_count, section_text, section_answer, section_writes}

-- a number of at most three digits in decimal
pub number_decimal : (n : ℕ) → n < 1000 → decimal n ≡ number n
number_decimal n h =
    cond_both (ltb n 10) ((48 + n) ∷ []) _ (λ bs. decimal n ≡ bs) (λ e. decimal_digit n (ltb-true n 10 e))
    (λ e. cond_both (ltb n 100) ((48 + n / 10) ∷ (48 + n % 10) ∷ []) _ (λ bs. decimal n ≡ bs)
    (λ f. let lo = ltb-false n 10 e in let hi = ltb-true n 100 f in decimal_step n lo (omega arith) ∙ ap (λ l. l ++ (48 + n % 10) ∷ []) (decimal_digit (n / 10) (omega arith)))
    (λ f. let lo = ltb-false n 100 f in
    let d : n / 10 / 10 ≡ n / 100 = omega arith in
    decimal_step n (omega arith) (omega arith)
    ∙ ap (λ l. l ++ (48 + n % 10) ∷ []) (decimal_step (n / 10) (omega arith) (omega arith) ∙ ap (λ l. l ++ (48 + n / 10 % 10) ∷ []) (decimal_digit (n / 10 / 10) (omega arith)))
    ∙ ap (λ k. (48 + k) ∷ (48 + n / 10 % 10) ∷ (48 + n % 10) ∷ []) d))

pub spaced_push : (names : List (List ℕ)) (word : List ℕ) → spaced names ++ (32 ∷ word) ≡ spaced (names ++ word ∷ [])
spaced_push names word = flat_map_more (λ w. 32 ∷ w) [] names word

pub node_names_more : (ns : List ℕ) (i : ℕ) → i < length ns → node_names (take i ns) ++ (32 ∷ node_name (get_or ns i 0)) ≡ node_names (take (i + 1) ns)
node_names_more ns i h = spaced_push (map node_name (take i ns)) (node_name (get_or ns i 0)) ∙ ap spaced (sym (map_more node_name ns i 0 h))

pub output_names_more : (k : ℕ) → output_names k ++ (32 ∷ output_name k) ≡ output_names (k + 1)
output_names_more k = spaced_push (map output_name (range_with_len 0 k)) (output_name k) ∙ ap spaced (sym (map-range_with_len_more output_name 0 k k (zero-add k)))

digits_suc : (m n : ℕ) → leaf_digits m (suc n) ≡ leaf_digits m n ++ (48 + bit m n) ∷ []
digits_suc m zero = ap (λ x. (48 + x) ∷ []) (sym (bit_first m))
digits_suc m (suc n) =
    ap (λ xs. (48 + m % 2) ∷ xs) (digits_suc (m / 2) n) ∙ ap (λ x. (48 + m % 2) ∷ (leaf_digits (m / 2) n ++ (48 + x) ∷ [])) (bit_half m n)

pub digits_more : (m n : ℕ) → leaf_digits m n ++ (48 + bit m n) ∷ [] ≡ leaf_digits m (n + 1)
digits_more m n = sym (ap (leaf_digits m) (add-one n) ∙ digits_suc m n)

counting_more : (m : ℕ) → range_with_len 0 (m + 1) ≡ range_with_len 0 m ++ m ∷ []
counting_more m = sym (map-id (range_with_len 0 (m + 1))) ∙ map-range_with_len_more (λ k. k) 0 m m (zero-add m) ∙ ap (λ xs. xs ++ m ∷ []) (map-id (range_with_len 0 m))

on_rows_more : (t m : ℕ) → on_rows t (m + 1) ≡ on_rows t m ++ cond (eqb (bit t m) 1) (m ∷ []) []
on_rows_more t m = ap (keep (λ k. eqb (bit t k) 1)) (counting_more m) ∙ filter-append (λ k. eqb (bit t k) 1) (range_with_len 0 m) (m ∷ [])

-- the lines of the rows below m
abbrev pub lines_to : ℕ → ℕ → ℕ → List ℕ
lines_to t n m = flat_map (line n) (on_rows t m)

pub lines_with : (t n m : ℕ) → bit t m ≡ 1 → lines_to t n m ++ line n m ≡ lines_to t n (m + 1)
lines_with t n m h =
    flat_map_more (line n) [] (on_rows t m) m ∙ ap (flat_map (line n)) (sym (on_rows_more t m ∙ ap (λ b. on_rows t m ++ cond (eqb b 1) (m ∷ []) []) h))

pub lines_without : (t n m : ℕ) → eqb (bit t m) 1 ≡ false → lines_to t n m ≡ lines_to t n (m + 1)
lines_without t n m h =
    ap (flat_map (line n)) (sym (on_rows_more t m ∙ ap (λ b. on_rows t m ++ cond b (m ∷ []) []) h ∙ append-nil (on_rows t m)))

-- the sections by their numbers
length_outputs : (k : ℕ) (os : List ℕ) → length (output_texts k os) ≡ length os
length_outputs k [] = refl
length_outputs k (o ∷ os) = ap suc (length_outputs (k + 1) os)

output_at : (k : ℕ) (os : List ℕ) (j : ℕ) → j < length os → get_or (output_texts k os) j [] ≡ output_text (k + j) (get_or os j 0)
output_at k [] j h = absurd (omega arith)
output_at k (o ∷ os) zero h = ap (λ i. output_text i o) (sym (add-zero k))
output_at k (o ∷ os) (suc j) h =
    let e : (k + 1) + j ≡ k + suc j = omega arith in
    output_at (k + 1) os j (omega arith) ∙ ap (λ i. output_text i (get_or os j 0)) e

module _ (n : Netlist) where
  abbrev behind : List (List ℕ)
  behind = output_texts 0 n.outputs ++ codes ".end\n" ∷ []

  length_cells : length (map cell_text n.cells) ≡ length n.cells
  length_cells = length-map n.cells cell_text

  pub section_count_lem : section_count n ≡ 2 + length n.cells + length n.outputs
  section_count_lem =
      omega (arith, length-append (map cell_text n.cells) behind, length_cells, length-append (output_texts 0 n.outputs) (codes ".end\n" ∷ []), length_outputs 0 n.outputs)

  section_behind : (i : ℕ) → 0 < i → section_text n i ≡ get_or (map cell_text n.cells ++ behind) (i - 1) []
  section_behind zero h = absurd (omega arith)
  section_behind (suc i) h = let e : i ≡ suc i - 1 = omega arith in ap (λ j. get_or (map cell_text n.cells ++ behind) j []) e

  pub section_cell : (i : ℕ) (d : Cell) → 0 < i → i ≤ length n.cells → section_text n i ≡ cell_text (get_or n.cells (i - 1) d)
  section_cell i d pos l =
      section_behind i pos
      ∙ get_or_append_left (map cell_text n.cells) behind [] (i - 1) (omega (arith, length_cells))
      ∙ get_or-map cell_text n.cells (i - 1) d [] (omega arith)

  section_past : (i : ℕ) → length n.cells < i → section_text n i ≡ get_or behind (i - 1 - length n.cells) []
  section_past i l =
      section_behind i (omega arith)
      ∙ get_or-append_right (map cell_text n.cells) behind (length n.cells) (i - 1) [] length_cells (omega arith)

  pub section_output : (i k : ℕ) → length n.cells < i → k ≡ i - 1 - length n.cells → k < length n.outputs → section_text n i ≡ output_text k (get_or n.outputs k 0)
  section_output i k l e h =
      section_past i l ∙ ap (λ j. get_or behind j []) (sym e)
      ∙ get_or_append_left (output_texts 0 n.outputs) (codes ".end\n" ∷ []) [] k (omega (arith, length_outputs 0 n.outputs))
      ∙ output_at 0 n.outputs k h ∙ ap (λ j. output_text j (get_or n.outputs k 0)) (zero-add k)

  pub section_end : (i : ℕ) → i ≡ 1 + length n.cells + length n.outputs → section_text n i ≡ codes ".end\n"
  section_end i e =
      section_past i (omega arith)
      ∙ get_or_at (output_texts 0 n.outputs) (codes ".end\n") [] [] (i - 1 - length n.cells) (omega (arith, length_outputs 0 n.outputs))

  -- what a call answers and writes for a section that is there: a buffer shorter than it
  pub section_short : (i : ℕ) (out : List ℕ) → i < section_count n → length out < length (section_text n i) → (section_answer n i out ≡ Err TooShort) × (section_writes n i out ≡ out)
  section_short i out h l =
      let a : section_answer n i out ≡ Err TooShort =
      cond-true (ltb i (section_count n)) _ _ (lt-ltb i (section_count n) h) ∙ cond-false (leb (length (section_text n i)) (length out)) _ _ (lt-leb _ _ l) in
      (a, cond-false (is_ok (section_answer n i out)) _ _ (ap is_ok a))

  -- and one that it fits
  pub section_fits : (i : ℕ) (out : List ℕ) → i < section_count n → length (section_text n i) ≤ length out → (section_answer n i out ≡ Ok (length (section_text n i))) × (section_writes n i out ≡ section_text n i ++ drop (length (section_text n i)) out)
  section_fits i out h l =
      let a : section_answer n i out ≡ Ok (length (section_text n i)) =
      cond-true (ltb i (section_count n)) _ _ (lt-ltb i (section_count n) h) ∙ cond-true (leb (length (section_text n i)) (length out)) _ _ (le-leb _ _ l) in
      (a, cond-true (is_ok (section_answer n i out)) _ _ (ap is_ok a))

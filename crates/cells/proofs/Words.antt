-- Words bit by bit: halves, inverses, conjunctions, low parts, and the words of the leaves.
use Rattle.std.proofs.Common.{◌≡◌, ℕ, zero, suc, ◌+◌, ◌-◌, ◌*◌, ◌/◌, ◌%◌, ◌^◌, ◌<◌, ◌≤◌, true, eqb, List, [], ◌∷◌, get_or, sym, refl, ap, ◌∙◌, add_comm, div-one, add-one, arith, pow_mono}
use native.Mathlib.Nat.{div-eq_of_lt}
use lib.Bits.{bit_and}
use Rattle.std.specs.List.{range_with_len}
use Rattle.std.proofs.lemmas.Nat.{shr-shr, and_shr, and_mod, mod_below, div-add-mod', pow_pos}
use Rattle.std.proofs.lemmas.Bool.{eqb-true}
use Rattle.drawing.specs.Sets.{every}
use Rattle.drawing.proofs.Members.{every_in, in_counting}
use Rattle.cells.specs.Limits.{table_bits}
use Rattle.drawing.specs.Drawing.{most_leaves}
use Rattle.cells.specs.Truth.{bit}
use Rattle.cells.proofs.Packed.{pow_one, bit_low}

pub bit_first : (t : ℕ) → bit t 0 ≡ t % 2
bit_first t = ap (λ x. x % 2) (div-one t)

pub bit_half : (t m : ℕ) → bit (t / 2) m ≡ bit t (suc m)
bit_half t m = let e : 1 + m ≡ suc m = omega arith in ap (λ x. x % 2) (shr-shr t 1 m ∙ ap (λ k. t / 2 ^ k) e)

pub bit_small : (t m : ℕ) → bit t m ≤ 1
bit_small t m = omega (arith, mod_below (t / 2 ^ m) 2)

-- `!w` of n bits
pub bit_not : (n w m : ℕ) → w < 2 ^ n → m < n → bit ((2 ^ n - 1) - w) m ≡ 1 - bit w m
bit_not zero w m l h = absurd (omega arith)
bit_not (suc n) w zero l h =
    let p = ap (λ k. 2 ^ k) (sym (add-one n)) ∙ pow_one n in
    let x = (2 ^ suc n - 1) - w in
    bit_first x ∙ (let e : x % 2 ≡ 1 - w % 2 = omega arith in e) ∙ ap (λ b. 1 - b) (sym (bit_first w))
bit_not (suc n) w (suc m) l h =
    let p = ap (λ k. 2 ^ k) (sym (add-one n)) ∙ pow_one n in
    let x = (2 ^ suc n - 1) - w in
    let e : x / 2 ≡ (2 ^ n - 1) - w / 2 = omega arith in
    sym (bit_half x m) ∙ ap (λ y. bit y m) e ∙ bit_not n (w / 2) m (omega arith) (omega arith) ∙ ap (λ b. 1 - b) (bit_half w m)

pub bit_and_lem : (a b m : ℕ) → bit (bit_and a b) m ≡ bit_and (bit a m) (bit b m)
bit_and_lem a b m = ap (λ x. x % 2) (and_shr a b m) ∙ and_mod (a / 2 ^ m) (b / 2 ^ m) 1

-- the low k bits
pub bit_mod_low : (w k m : ℕ) → m < k → bit (w % 2 ^ k) m ≡ bit w m
bit_mod_low w k m h =
    sym (bit_low (w % 2 ^ k) (w / 2 ^ k) k m h) ∙ ap (λ x. bit x m) (add_comm (w % 2 ^ k) (w / 2 ^ k * 2 ^ k) ∙ div-add-mod' w (2 ^ k))

pub bit_mod_high : (w k m : ℕ) → k ≤ m → bit (w % 2 ^ k) m ≡ 0
bit_mod_high w k m h =
    let l : w % 2 ^ k < 2 ^ m = omega (arith, mod_below w (2 ^ k) (pow_pos k), pow_mono h) in
    ap (λ x. x % 2) (div-eq_of_lt l)

-- the word of leaf j has bit j of the row's number in every row
abbrev pub leaf_words : List ℕ
leaf_words = 0xaaaa_aaaa ∷ 0xcccc_cccc ∷ 0xf0f0_f0f0 ∷ 0xff00_ff00 ∷ 0xffff_0000 ∷ []

leaf_words_all : every (λ j. every (λ m. eqb (bit (get_or leaf_words j 0) m) (bit m j)) (range_with_len 0 table_bits)) (range_with_len 0 most_leaves) ≡ true
leaf_words_all = refl

pub leaf_word_bit : (j m : ℕ) → j < most_leaves → m < table_bits → bit (get_or leaf_words j 0) m ≡ bit m j
leaf_word_bit j m h k =
    let a = every_in (λ i. every (λ r. eqb (bit (get_or leaf_words i 0) r) (bit r i)) (range_with_len 0 table_bits)) j (range_with_len 0 most_leaves) leaf_words_all (in_counting 0 most_leaves j (omega arith) (omega arith)) in
    eqb-true _ _ (every_in (λ r. eqb (bit (get_or leaf_words j 0) r) (bit r j)) m (range_with_len 0 table_bits) a (in_counting 0 table_bits m (omega arith) (omega arith)))

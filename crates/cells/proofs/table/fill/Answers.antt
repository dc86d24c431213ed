use Rattle.std.proofs.Common.{◌≡◌, ◌-◌, ◌*◌, ◌%◌, ◌^◌, ◌<◌, ◌≤◌, sym, ap, ◌∙◌, ⊎_elim, arith}
use lib.Bits.{bit_and}
use Rattle.std.proofs.lemmas.Nat.{and_mask, one_shl}
use Rattle.std.proofs.lemmas.Bool.{cases_lt}
use Rattle.cells.specs.Truth.{bit}
use Rattle.cells.proofs.Tables.{table_bit_row, table_bit_above}
use Rattle.cells.proofs.Words.{bit_mod_low, bit_mod_high}
use Rattle.cells.proofs.table.fill.Goals as goal

pub returns-then-rows-lt-BITS : goal.returns-then-rows-lt-BITS
returns-then-rows-lt-BITS c = λ m h.
    let w = c.args.word in
    let n = c.args.count in
    let e : 1 * 2 ^ n % 2 ^ 32 ≡ 2 ^ n = one_shl n 32 (omega arith) in
    let l : 2 ^ n < 32 = omega (arith, e, c.if-rows-lt-BITS.true) in
    ap (λ k. bit (bit_and w (1 * 2 ^ k % 2 ^ 32 - 1)) m) e
    ∙ ap (λ x. bit (bit_and w (x - 1)) m) (one_shl (2 ^ n) 32 l)
    ∙ ap (λ x. bit x m) (and_mask w (2 ^ n))
    ∙ ⊎_elim
    (λ (g : m < 2 ^ n). bit_mod_low w (2 ^ n) m g ∙ sym (table_bit_row n (bit w) m g))
    (λ (g : 2 ^ n ≤ m). bit_mod_high w (2 ^ n) m g ∙ sym (table_bit_above n (bit w) m g))
    (cases_lt m (2 ^ n))

pub returns-else-rows-lt-BITS : goal.returns-else-rows-lt-BITS
returns-else-rows-lt-BITS c = λ m h.
    let n = c.args.count in
    let e : 1 * 2 ^ n % 2 ^ 32 ≡ 2 ^ n = one_shl n 32 (omega arith) in
    sym (table_bit_row n (bit c.args.word) m (omega (arith, e, c.if-rows-lt-BITS.false)))

use Rattle.std.proofs.Common.{◌≡◌, length, ap, ◌∙◌, arith, pow_mono}
use Rattle.cells.specs.Limits.{table_bits}
use Rattle.cells.specs.Truth.{bit, table_of}
use Rattle.cells.proofs.Packed.{packed_is}
use Rattle.cells.proofs.Tables.{bits, table_bit_same, table_row, table_above}
use Rattle.cells.proofs.table.Cone.table.Goals as goal

pub returns : goal.returns
unfolding table_of
returns c =
    let s = c.args.self.now in
    let nodes = s.nodes.now in
    let ls = s.leaves.now in
    let root = s.root in
    let word = c.word.result in
    let t : c.fill.result ≡ table_of nodes ls root =
    packed_is c.fill.result table_bits (bits nodes ls root) (omega arith)
    (λ m h. c.fill.ensures m h ∙ table_bit_same (length ls) (bit word) _ m (λ k l. c.word.ensures k (omega (arith, pow_mono s.few)))) in
    record {
      is = t;
      rows = λ m h. ap (λ x. bit x m) t ∙ table_row nodes ls root m s.few h;
      above = λ m h. ap (λ x. bit x m) t ∙ table_above nodes ls root m h;
    }

use Rattle.std.proofs.Common.{◌≡◌, ◌*◌, ◌/◌, ◌%◌, ◌^◌, length, sym, ap, ◌∙◌, arith}
use Rattle.std.proofs.lemmas.Nat.{and_mask, one_shl}
use Rattle.std.proofs.lemmas.Bool.{ne_eqb}
use Rattle.drawing.specs.Drawing.{most_leaves}
use Rattle.cells.specs.Truth.{bit}
use Rattle.cells.proofs.Packed.{row_below}
use Rattle.pen.proofs.Wrote.{wrote_then, wrote_is, wrote_as}
use Rattle.blif.specs.Text.{table_lines}
use Rattle.blif.proofs.Texts.{lines_to, lines_with, lines_without}
use Rattle.blif.proofs.section.put_table.Goals as goal
use Rattle.blif.proofs.section.put_table.Goals.{then-table-m-eq1, else-table-m-eq1}

pub overflow_shr-table : goal.overflow_shr-table
overflow_shr-table c = row_below _ _ most_leaves c.leaves-leaves.ensures.few (omega arith) c.loop-m-test.true

pub loop-m-preserved : goal.loop-m-preserved
loop-m-preserved c =
    let t = c.args.cell.now.table in
    let n = length c.leaves-leaves.result.now in
    let m = c.loop-m.m in
    let e = and_mask (t / 2 ^ m) 1 in
    elim c.if-table-m-eq1.branch [
      | then-table-m-eq1 w ↦ wrote_as (wrote_is (wrote_then c.loop-m.invariant w.put_line.ensures) (lines_with t n m (sym e ∙ w.if-table-m-eq1.true))) w.pen-is
      | else-table-m-eq1 w ↦ wrote_as (wrote_is c.loop-m.invariant (lines_without t n m (ne_eqb (bit t m) 1 (λ h. w.if-table-m-eq1.false (e ∙ h))))) w.pen-is
    ]

pub returns : goal.returns
returns c =
    let t = c.args.cell.now.table in
    let few = c.leaves-leaves.ensures.few in
    let n = length c.leaves-leaves.result.now in
    let e : 1 * 2 ^ n % 2 ^ 32 ≡ 2 ^ n = one_shl n 32 (omega arith) in
    let m : c.loop-m.m ≡ 2 ^ n = omega arith in
    wrote_is c.loop-m.invariant (ap (lines_to t n) m ∙ ap (λ ls. table_lines t (length ls)) c.leaves-leaves.ensures.is)

use Rattle.std.proofs.Common.{ℕ, ◌/◌, ◌^◌, get_or, ap, ◌∙◌, arith}
use Rattle.std.proofs.lemmas.Nat.{and_mask}
use Rattle.cells.specs.Truth.{bit}
use Rattle.cells.specs.Netlist.{row_of}
use Rattle.cells.proofs.Words.{bit_small}
use Rattle.cells.proofs.cover.evaluate.Values.cell.Goals as goal

pub returns : goal.returns
returns c =
    let f : ℕ → ℕ = λ l. get_or c.args.self.now.bits l 0 in
    let table = c.args.cell.now.table in
    let t = and_mask (table / 2 ^ c.row.result) 1 in
    record {
      is = t ∙ ap (bit table) (c.row.ensures.is ∙ ap (row_of f) c.leaves.ensures.is);
      small = omega (arith, t, bit_small table c.row.result);
    }

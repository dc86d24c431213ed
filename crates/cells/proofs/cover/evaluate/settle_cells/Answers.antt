use Rattle.std.proofs.Common.{◌≡◌, List, take, subst, arith}
use Rattle.std.proofs.lemmas.List.{take_all}
use Rattle.cells.specs.declared.cell.Cell.{Cell}
use Rattle.cells.specs.Netlist.{after}
use Rattle.cells.specs.Evaluate.{Holds}
use Rattle.cells.proofs.Settle.{cell_more}
use Rattle.cells.proofs.cover.evaluate.settle_cells.Goals as goal

pub loop-cell-preserved : goal.loop-cell-preserved
loop-cell-preserved c = λ env h.
    let k = c.loop-cell.cell-index in
    let old = c.loop-cell.invariant env h in
    cell_more c.loop-cell.values.bits c.set.new.self.bits env c.args.cells.now k c.cell-value.result _
    c.loop-cell-test.true c.cell-value.ensures.is old (c.set.ensures (after env (take k c.args.cells.now)) old)

pub returns : goal.returns
returns c = λ env h.
    let e : take c.loop-cell.cell-index c.args.cells.now ≡ c.args.cells.now = take_all c.loop-cell.cell-index c.args.cells.now (omega arith) in
    subst (λ (cs : List Cell). Holds c.loop-cell.values.bits (after env cs)) e (c.loop-cell.invariant env h)

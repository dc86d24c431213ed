use Rattle.std.proofs.Common.{ap}
use Rattle.std.proofs.lemmas.List.{take_all}
use Rattle.std.specs.List.{flat_map}
use Rattle.aiger.specs.Text.{line_of, rows}
use Rattle.pen.proofs.Wrote.{wrote_then, wrote_is}
use Rattle.aiger.proofs.Writes.{lines_more}
use Rattle.aiger.proofs.writer.put_rows.Goals as goal

pub loop-k-preserved : goal.loop-k-preserved
loop-k-preserved g c =
    wrote_is (wrote_then c.loop-k.invariant c.put.ensures) (lines_more g.R.Row.lines c.args.nodes.now c.loop-k.k _ c.loop-k-test.true)

pub returns : goal.returns
returns g c =
    wrote_is c.loop-k.invariant (ap (λ ns. flat_map line_of (rows g.R.Row.lines 0 ns)) (take_all c.loop-k.k c.args.nodes.now c.loop-k-test.false))

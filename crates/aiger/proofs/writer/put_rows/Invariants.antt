use Rattle.std.proofs.Common.{take}
use Rattle.std.specs.List.{flat_map}
use Rattle.aiger.specs.Text.{line_of, rows}
use Rattle.pen.specs.Wrote.{Wrote}
use Rattle.aiger.proofs.writer.put_rows.Given as goal

abbrev pub invariant-loop-k : goal.invariant-loop-k
invariant-loop-k g l = Wrote l.initial.pen (flat_map line_of (rows g.R.Row.lines 0 (take l.k l.nodes))) l.pen

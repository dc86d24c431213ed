use Rattle.std.proofs.Common.{take}
use Rattle.std.specs.List.{flat_map}
use Rattle.aiger.specs.Text.{line_of, output_rows}
use Rattle.pen.specs.Wrote.{Wrote}
use Rattle.aiger.proofs.writer.put_outputs.Given as goal

abbrev pub invariant-loop-literal : goal.invariant-loop-literal
invariant-loop-literal l = Wrote l.initial.pen (flat_map line_of (output_rows (take l.literal-index l.outputs))) l.pen

use Rattle.std.proofs.Common.{map, length, take}
use Rattle.drawing.specs.Values.{bound}
use Rattle.cells.specs.Netlist.{plain}
use Rattle.cells.specs.Evaluate.{Holds}
use Rattle.cells.proofs.cover.evaluate.bind_inputs.Given as goal

-- the first inputs have their values
abbrev pub invariant-loop-number : goal.invariant-loop-number
invariant-loop-number l =
    Holds l.values.bits (bound (map plain (take (length l.yielded) l.inputs)) (take (length l.yielded) l.row))

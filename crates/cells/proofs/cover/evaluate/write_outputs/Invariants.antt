use Rattle.std.proofs.Common.{◌≡◌, ◌++◌, map, get_or, take, drop}
use Rattle.cells.specs.Netlist.{output_value}
use Rattle.cells.proofs.cover.evaluate.write_outputs.Given as goal

-- the first k outputs stand in the buffer
abbrev pub invariant-loop-k : goal.invariant-loop-k
invariant-loop-k l = l.out ≡ map (output_value (λ n. get_or l.values.bits n 0)) (take l.k l.outputs) ++ drop l.k l.initial.out

use Rattle.std.proofs.Common.{◌≡◌, [], take}
use Rattle.drawing.specs.Values.{inputs_of}
use Rattle.cells.specs.Netlist.{netlist}
use Rattle.cells.specs.Netlists.{netlist_of}
use Rattle.covering.proofs.fill.put_inputs.Given as goal

-- the inputs so far
abbrev pub invariant-loop-number : goal.invariant-loop-number
invariant-loop-number l = netlist_of l.cover ≡ netlist (inputs_of (take l.number l.nodes)) [] []

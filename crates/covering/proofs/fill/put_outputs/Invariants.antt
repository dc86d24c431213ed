use Rattle.std.proofs.Common.{◌≡◌, take}
use Rattle.drawing.specs.Tables.{drawing_of}
use Rattle.cells.specs.Netlist.{netlist}
use Rattle.cells.specs.Netlists.{netlist_of}
use Rattle.covering.proofs.fill.put_outputs.Given as goal

-- the outputs so far
abbrev pub invariant-loop-output : goal.invariant-loop-output
invariant-loop-output l = netlist_of l.cover ≡ netlist (netlist_of l.initial.cover).inputs (netlist_of l.initial.cover).cells (take l.output-index (drawing_of l.table).outputs)

use Rattle.std.proofs.Common.{◌≡◌}
use Rattle.drawing.specs.Tables.{drawing_of}
use Rattle.cuts.specs.Leaves.{sets_of}
use Rattle.cells.specs.Netlists.{netlist_of}
use Rattle.covering.specs.Chosen.{cover_up_to, marked_gate, set_at}
use Rattle.covering.proofs.fill.put_cells.Given as goal

-- the cells so far
abbrev pub invariant-loop-v : goal.invariant-loop-v
invariant-loop-v l =
    let nodes = (drawing_of l.taken.table.now).nodes in
    netlist_of l.cover ≡ cover_up_to nodes (marked_gate nodes l.marks) (set_at (sets_of l.taken.cuts.now)) l.v

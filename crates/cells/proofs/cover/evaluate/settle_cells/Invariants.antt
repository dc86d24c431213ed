use Rattle.std.proofs.Common.{ℕ, List, take}
use Rattle.cells.specs.Netlist.{after}
use Rattle.cells.specs.Evaluate.{Holds}
use Rattle.cells.proofs.cover.evaluate.settle_cells.Given as goal

-- the first cells have their values
abbrev pub invariant-loop-cell : goal.invariant-loop-cell
invariant-loop-cell l =
    (env : List (ℕ × ℕ)) → Holds l.initial.values.bits env → Holds l.values.bits (after env (take l.cell-index l.cells))

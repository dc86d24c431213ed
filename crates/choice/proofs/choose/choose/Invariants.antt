use Rattle.std.proofs.Common.{◌≡◌, map, drop}
use Rattle.cuts.specs.Leaves.{leaves_of, sets_of}
use Rattle.family.specs.Family.{cell_arrival}
use Rattle.choice.specs.Choice.{taken, taken_from}
use Rattle.choice.proofs.choose.choose.Given as goal

-- what the fold makes of the best so far and the cuts that are left
abbrev pub invariant-loop-cut : goal.invariant-loop-cut
invariant-loop-cut g l =
    let F = g.F.Family.delay l.arrivals.family.now in
    let table = l.arrivals.table.now in
    record {
      folds : taken_from F table (leaves_of l.best.cut) (map leaves_of (drop l.cut-index l.rest)) ≡ taken F table (sets_of l.list);
      arrives : l.best.arrival ≡ cell_arrival F table (leaves_of l.best.cut);
    }

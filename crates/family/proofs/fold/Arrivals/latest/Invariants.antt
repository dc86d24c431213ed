use Rattle.std.proofs.Common.{◌≡◌, map, drop, get_or}
use Rattle.family.specs.Family.{latest_from, latest_among}
use Rattle.family.proofs.fold.Arrivals.latest.Given as goal

-- what the fold makes of the latest so far and the leaves that are left
abbrev pub invariant-loop-leaf : goal.invariant-loop-leaf
invariant-loop-leaf g l =
    let F = g.F.Family.delay l.self.family.now in
    latest_from F l.last (map (λ u. get_or l.self.table.now u F.start) (drop l.leaf-index l.rest)) ≡ latest_among F l.self.table.now l.leaves

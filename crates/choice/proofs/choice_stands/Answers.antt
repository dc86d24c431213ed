use Rattle.choice.proofs.Optimal.{best_is_first}
use Rattle.choice.proofs.OwnCover.{best_is_reached}
use Rattle.choice.proofs.Needed.{outputs_first, needed_suffice}
use Rattle.choice.proofs.choice_stands.Goals as goal

pub returns : goal.returns
returns g c =
    let F = g.F.Family.delay c.args.family.now in
    let L = g.met.F.Family.lawful c.args.family.now in
    record { first = best_is_first F L; reached = best_is_reached F L; outputs = outputs_first F L; needed = needed_suffice F L }

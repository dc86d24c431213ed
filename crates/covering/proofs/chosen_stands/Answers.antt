use Rattle.covering.proofs.ChosenCover.{rivals_cover, chosen_covers, chosen_agrees, chosen_narrow, chosen_fits, chosen_earliest, chosen_first, chosen_best}
use Rattle.covering.proofs.chosen_stands.Goals as goal

pub returns : goal.returns
returns g c =
    let F = g.F.Family.delay c.args.family.now in
    let L = g.met.F.Family.lawful c.args.family.now in
    record {
      covers = chosen_covers F L;
      agrees = chosen_agrees F L;
      narrow = chosen_narrow F L;
      fits = chosen_fits F;
      rivals = rivals_cover;
      earliest = chosen_earliest F L;
      first = chosen_first F L;
      best = chosen_best F L;
    }

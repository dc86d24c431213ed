use Rattle.family.proofs.Latest.{latest_is_last, latest_rises, part_not_later, more_not_earlier, cell_not_later}
use Rattle.family.proofs.fold.fold_stands.Goals as goal

pub returns : goal.returns
returns g c =
    let F = g.F.Family.delay c.args.family.now in
    let L = g.met.F.Family.lawful c.args.family.now in
    record {
      last = latest_is_last F L;
      table = latest_rises F L;
      part = part_not_later F L;
      more = more_not_earlier F L;
      cell = cell_not_later F L;
    }

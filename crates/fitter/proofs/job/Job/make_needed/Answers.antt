use Rattle.std.proofs.Common.{sym}
use Rattle.std.proofs.lemmas.Bool.{and_parts}
use Rattle.fitter.proofs.Progress.{fanins_kept, not_needed, made_needed}
use Rattle.fitter.proofs.job.Job.make_needed.Goals as goal

pub make-requires : goal.make-requires
make-requires c =
    let n = sym c.if-not-needs.ensures in
    record { gate = (and_parts _ _ n).0; fanins = fanins_kept c.args.self.now c.args.v n c.requires.below }

pub returns-then-not-needs : goal.returns-then-not-needs
returns-then-not-needs c = not_needed c.args.self.now c.args.v (sym c.if-not-needs.ensures)

pub returns : goal.returns
returns c = made_needed c.args.self.now c.make.new.self c.args.v c.make.result (sym c.if-not-needs.ensures) c.make.ensures

use Rattle.std.proofs.Common.{◌∙◌}
use Rattle.fitter.proofs.Histories.{handled_kept}
use Rattle.fitter.proofs.job.Job.is_kept.Goals as goal

pub returns : goal.returns
returns c =
    record { value = c.holds.ensures; law = λ h g. c.holds.ensures ∙ handled_kept h c.args.self.now g c.args.gate }

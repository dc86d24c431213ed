use Rattle.fitter.proofs.Progress.{ready_all}
use Rattle.fitter.proofs.job.Job.make_lists.Goals as goal

pub returns-then-keeps_needed : goal.returns-then-keeps_needed
returns-then-keeps_needed c = ready_all c.args.self.now (c.keeps_needed.ensures c.if-keeps_needed.true)

use Rattle.fitter.specs.Making.{Progress}
use Rattle.fitter.proofs.job.Job.make_missing.Given as goal

abbrev pub invariant-loop-v : goal.invariant-loop-v
invariant-loop-v l = Progress l.initial.self l.v l.made l.self

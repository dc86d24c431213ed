use Rattle.fitter.specs.Making.{KeptUpTo}
use Rattle.fitter.proofs.job.Job.keeps_needed.Given as goal

abbrev pub invariant-loop-v : goal.invariant-loop-v
invariant-loop-v l = KeptUpTo l.self l.v

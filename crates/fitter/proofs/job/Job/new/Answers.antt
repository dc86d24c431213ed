use Rattle.std.proofs.Common.{refl}
use Rattle.fitter.proofs.Stays.{nothing_kept}
use Rattle.fitter.proofs.job.Job.new.Goals as goal

pub invariant_of-result : goal.invariant_of-result
invariant_of-result c =
    let none = nothing_kept _ c.new-2.ensures in
    record { part = refl; gates = (λ v h. absurd (none v h)); listed = (λ v h s. absurd (none v h)); counted = (λ v h. absurd (none v h)) }

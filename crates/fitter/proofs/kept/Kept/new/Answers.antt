use Rattle.std.proofs.Common.{refl, arith}
use Rattle.fitter.proofs.FlatRows.{each_held, each_short}
use Rattle.fitter.proofs.kept.Kept.new.Goals as goal

pub invariant_of-result : goal.invariant_of-result
invariant_of-result c = record { room = (refl, refl); short = (λ v. each_short 256 v _ (omega arith)) }

pub returns : goal.returns
returns c = λ v. each_held 256 v _ refl

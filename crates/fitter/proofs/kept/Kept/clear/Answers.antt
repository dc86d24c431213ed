use Rattle.std.proofs.Common.{refl, arith}
use Rattle.fitter.proofs.FlatRows.{each_held, each_short}
use Rattle.fitter.proofs.kept.Kept.clear.Goals as goal

pub way_repeat_by-self : goal.way_repeat_by-self
way_repeat_by-self c = ((c.args.self.now.room.0, refl), ((λ v. each_short 256 v _ (omega arith)), tt))

pub returns : goal.returns
returns c = λ v. each_held 256 v _ refl

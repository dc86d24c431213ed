use mathlib.Core.Path.{refl}
use Rattle.figures.proofs.FiguresHold.{figures_hold}
use Rattle.figures.proofs.figures_hold.Goals as goal

pub returns : goal.returns
returns c = record { hold = figures_hold; entries = refl }

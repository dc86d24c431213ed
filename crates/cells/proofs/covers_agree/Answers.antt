use Rattle.cells.proofs.Agree.{covers_agree}
use Rattle.cells.proofs.covers_agree.Goals as goal

pub returns : goal.returns
returns c = covers_agree

use Rattle.cells.proofs.Laws.{tables_filled}
use Rattle.cells.proofs.tables_filled.Goals as goal

pub returns : goal.returns
returns c = tables_filled

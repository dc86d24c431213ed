use Rattle.pen.proofs.Wrote.{wrote_then, wrote_is}
use Rattle.blif.proofs.Texts.{number_decimal}
use Rattle.blif.proofs.put.put_name.Goals as goal

pub returns : goal.returns
returns c = wrote_then c.text.ensures (wrote_is c.number.ensures (number_decimal c.args.n c.requires))

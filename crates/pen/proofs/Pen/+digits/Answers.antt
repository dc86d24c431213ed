use Rattle.std.proofs.Common.{arith}
use Rattle.pen.proofs.Wrote.{wrote_number}
use Rattle.pen.proofs.Pen.+digits.Goals as goal

pub returns : goal.returns
returns t c = wrote_number c.digits.ensures c.byte-2.ensures c.if-n-lt10.false (omega arith)

use Rattle.std.proofs.Common.{arith}
use Rattle.pen.proofs.Wrote.{wrote_is, decimal_two, decimal_three}
use Rattle.pen.proofs.Pen.number.Goals as goal

pub returns-then-n-lt100 : goal.returns-then-n-lt100
returns-then-n-lt100 c = wrote_is c.text.ensures (decimal_two c.args.n (omega arith) c.if-n-lt100.true)

pub returns-then-n-lt1000 : goal.returns-then-n-lt1000
returns-then-n-lt1000 c = wrote_is c.text-then-n-lt1000.ensures (decimal_three c.args.n (omega arith) c.if-n-lt1000.true)

use Rattle.std.proofs.Common.{◌≤◌, length, arith}
use Rattle.pen.proofs.Wrote.{wrote_then, wrote_is}
use Rattle.aiger.proofs.Writes.{line_last, line_first}
use Rattle.aiger.proofs.writer.+put_line.Goals as goal

pub returns-in-len1 : goal.returns-in-len1
returns-in-len1 t c = wrote_is (wrote_then c.number.ensures c.byte.ensures) (line_last c.args.numbers.now (omega arith) (omega arith))

pub returns-in-len1-up : goal.returns-in-len1-up
returns-in-len1-up t c =
    let more : 2 ≤ length c.args.numbers.now = omega arith in
    wrote_is (wrote_then (wrote_then c.number-in-len1-up.ensures c.byte-in-len1-up.ensures) c.put_line.ensures) (line_first c.args.numbers.now more)

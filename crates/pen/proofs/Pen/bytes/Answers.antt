use Rattle.std.proofs.Common.{sym, arith}
use Rattle.std.proofs.lemmas.List.{take_more, take_all}
use Rattle.pen.proofs.Wrote.{wrote_then, wrote_is}
use Rattle.pen.proofs.Pen.bytes.Goals as goal

pub loop-byte-preserved : goal.loop-byte-preserved
loop-byte-preserved c =
    wrote_is (wrote_then c.loop-byte.invariant c.byte.ensures) (sym (take_more c.args.text.now c.loop-byte.byte-index 0 (omega arith)))

pub returns : goal.returns
returns c = wrote_is c.loop-byte.invariant (take_all c.loop-byte.byte-index c.args.text.now (omega arith))

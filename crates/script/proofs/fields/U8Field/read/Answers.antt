use Rattle.std.proofs.Common.{arith}
use Rattle.script.proofs.Numbers.{narrowed}
use Rattle.script.proofs.fields.U8Field.read.Goals as goal

pub returns : goal.returns
returns c = narrowed 256 _ c.in_ok-number.field-0 c.try_from.result _ (omega arith) c.in_ok-number.ensures c.try_from.ensures c.ok.ensures.value

use Rattle.std.proofs.Common.{arith}
use Rattle.script.proofs.Numbers.{not_plain, not_empty}
use Rattle.script.proofs.number.number.Goals as goal

pub returns-in-empty : goal.returns-in-empty
returns-in-empty c x l e = not_empty _ x l c.in-empty.len_below e

pub returns-in-empty-2 : goal.returns-in-empty-2
returns-in-empty-2 c x l e = not_plain _ x l (omega arith) c.in-empty.len_at_least e

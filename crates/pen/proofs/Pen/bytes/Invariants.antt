use Rattle.std.proofs.Common.{take}
use Rattle.pen.specs.Wrote.{Wrote}
use Rattle.pen.proofs.Pen.bytes.Given as goal

abbrev pub invariant-loop-byte : goal.invariant-loop-byte
invariant-loop-byte l = Wrote l.initial.self (take l.byte-index l.text) l.self

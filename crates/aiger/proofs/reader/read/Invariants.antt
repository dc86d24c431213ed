use Rattle.std.proofs.Common.{◌≡◌, drop}
use Rattle.aiger.specs.Reads.{read}
use Rattle.aiger.specs.States.{Sound, go_on}
use Rattle.aiger.proofs.reader.read.Given as goal

abbrev pub invariant-loop-byte : goal.invariant-loop-byte
invariant-loop-byte l = Sound l.reader × (l.reader.line.pos ≡ l.byte-index) × (go_on l.reader (drop l.byte-index l.text) ≡ read l.text)

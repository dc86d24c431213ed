use Rattle.std.proofs.Common.{◌≡◌, ◌≤◌, drop}
use Rattle.script.specs.Fields.{are_digits}
use Rattle.script.proofs.Numbers.{read_on}
use Rattle.script.proofs.number.value.Given as goal

abbrev pub invariant-loop-byte : goal.invariant-loop-byte
invariant-loop-byte l =
    (are_digits (drop l.byte-index l.digits) ≡ are_digits l.digits)
    × (read_on l.n (drop l.byte-index l.digits) ≡ read_on 0 l.digits)
    × (l.n ≤ 65536)

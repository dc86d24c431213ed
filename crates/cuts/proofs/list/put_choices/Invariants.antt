use Rattle.std.proofs.Common.{◌≡◌, ◌++◌, take}
use Rattle.cuts.proofs.list.put_choices.Given as goal

abbrev pub invariant-loop-cut : goal.invariant-loop-cut
invariant-loop-cut l = l.choices.items ≡ l.initial.choices.items ++ take l.cut-index l.list

use Rattle.std.proofs.Common.{◌≡◌, map, drop}
use Rattle.choice.specs.Marks.{mark_all}
use Rattle.choice.proofs.marks.mark.Given as goal

-- what marking the names that are left makes of the marks
abbrev pub invariant-loop-name : goal.invariant-loop-name
invariant-loop-name g l = mark_all l.marks (map g.T.Name.node (drop l.name-index l.names)) ≡ mark_all l.initial.marks (map g.T.Name.node l.names)

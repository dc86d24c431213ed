-- The sets that stored cuts stand for.
use Rattle.std.specs.Prelude.{ℕ, List, map, take}
use Rattle.cuts.specs.declared.cut.Cut.{Cut}

-- the leaves of a stored cut
abbrev pub leaves_of : Cut → List ℕ
leaves_of c = take c.len c.leaves

-- the sets of some stored cuts
abbrev pub sets_of : List Cut → List (List ℕ)
sets_of rows = map leaves_of rows

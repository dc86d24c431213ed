-- What is kept.
use Rattle.std.specs.Prelude.{ℕ, Bool, List}
use Rattle.cuts.specs.declared.cut.Cut.{Cut}
use Rattle.fitter.specs.declared.kept.Kept.{Kept}
use Rattle.fitter.specs.Rows.{slot_at, row_at}

-- row v of what is stored: the kept list of node v, where it is kept
abbrev pub row_of : Kept → ℕ → List Cut
row_of k v = row_at k.cuts k.slots v

-- the list of node v is kept
abbrev pub held_of : Kept → ℕ → Bool
held_of k v = (slot_at k.slots v).held

-- Flat rows of cuts.
use Rattle.std.specs.Prelude.{ℕ, ◌*◌, false, List, take, drop, slice_index_or}
use Rattle.cuts.specs.Limits.{most_cuts}
use Rattle.fitter.specs.declared.kept.Slot.{Slot}

-- how many cuts there is room for: a row of the most cuts for each node
abbrev pub flat_rows : ℕ
flat_rows = 8192

-- the slot of row v: how many cuts are in the row, and whether they are a kept list
abbrev pub slot_at : List Slot → ℕ → Slot
slot_at slots v = slice_index_or slots v record { len = 0; held = false }

-- row v of flat rows, where the rows have these slots: as many cuts as its slot says
abbrev pub row_at : {X : Type 0} → List X → List Slot → ℕ → List X
row_at flat slots v = take (slot_at slots v).len (drop (v * most_cuts) flat)

use Rattle.std.proofs.Common.{◌≡◌, ℕ, ◌<◌, length, take}
use Rattle.drawing.specs.Column.{column}
use Rattle.drawing.specs.Drawing.{most_nodes}
use Rattle.cells.specs.Limits.{table_bits}
use Rattle.cells.specs.Truth.{coning, in_row, leaf_bits}
use Rattle.cells.proofs.table.Cone.word.Given as goal

-- in each row the values so far are the column's
abbrev pub invariant-loop-n : goal.invariant-loop-n
invariant-loop-n l =
    (length l.words ≡ most_nodes)
    × ((m : ℕ) → m < table_bits → in_row m (take l.n l.words) ≡ column (coning (leaf_bits l.self.leaves.now m)) (take l.n l.up_to))

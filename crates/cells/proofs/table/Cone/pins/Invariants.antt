use Rattle.std.proofs.Common.{◌≡◌, length, take}
use Rattle.drawing.specs.Drawing.{most_nodes}
use Rattle.cells.proofs.Pins.{Pinned}
use Rattle.cells.proofs.table.Cone.pins.Given as goal

abbrev pub invariant-loop-leaf : goal.invariant-loop-leaf
invariant-loop-leaf l = (length l.pins ≡ most_nodes) × Pinned l.pins (take (length l.yielded) l.self.leaves.now)

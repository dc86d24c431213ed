use Rattle.std.proofs.Common.{refl}
use Rattle.drawing.proofs.ValueLaws.{binary_zeros}
use Rattle.cells.specs.Limits.{most_literals}
use Rattle.cells.proofs.Settle.{no_names}
use Rattle.cells.proofs.cover.evaluate.Values.new.Goals as goal

pub invariant_of-result : goal.invariant_of-result
invariant_of-result c = record { long = refl; small = binary_zeros most_literals }

pub returns : goal.returns
returns c = no_names most_literals

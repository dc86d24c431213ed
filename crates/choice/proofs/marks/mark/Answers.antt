use Rattle.std.proofs.Common.{length, arith}
use Rattle.choice.proofs.Marking.{named_below}
use Rattle.choice.proofs.marks.mark.Goals as goal

pub bounds-marks-node : goal.bounds-marks-node
bounds-marks-node g c = omega (arith, named_below g.T.Name.node (length c.args.marks.now) c.args.names.now c.loop-name.name-index c.name-item.result c.requires c.loop-name-test.true c.name-item.is)

use Rattle.std.proofs.Common.{◌≡◌, ◌/◌, ◌<◌, refl, rules}
use Rattle.drawing.specs.declared.node.Node.TheVariants.{Gate}
use Rattle.drawing.specs.Drawing.{at}
use Rattle.fitter.specs.Jobs.{book_of}
use Rattle.fitter.proofs.AtHand.{left_small, right_small}
use Rattle.fitter.proofs.job.Job.list_of.Goals as goal

pub overflow_cast-pair : goal.overflow_cast-pair
overflow_cast-pair c =
    let j = c.args.self.now in
    let tied : at (book_of j).drawing.nodes c.args.v ≡ Gate c.in-Gate.pair = cc in
    let h : c.in-Gate.pair.left / 2 < 256 = left_small j c.args.v c.requires.gate c.requires.fanins _ refl c.in-Gate.pair tied in
    search rules

pub overflow_cast-pair-2 : goal.overflow_cast-pair-2
overflow_cast-pair-2 c =
    let j = c.args.self.now in
    let tied : at (book_of j).drawing.nodes c.args.v ≡ Gate c.in-Gate.pair = cc in
    let h : c.in-Gate.pair.right / 2 < 256 = right_small j c.args.v c.requires.gate c.requires.fanins _ refl c.in-Gate.pair tied in
    search rules

use Rattle.drawing.specs.Tables.{drawing_of}
use Rattle.choice.proofs.Marking.{fanins_under}
use Rattle.choice.proofs.marks.reached.Goals as goal

pub sweep-requires : goal.sweep-requires
sweep-requires c = let d = drawing_of c.args.table.now in fanins_under d.nodes d.outputs c.args.table.now.law

use Rattle.std.proofs.Common.{◌≡◌, refl}
use Rattle.drawing.specs.Drawing.{at}
use Rattle.drawing.specs.declared.node.Node.TheVariants.{Input, Gate}
use Rattle.cuts.proofs.Choosing.{above_zero}
use Rattle.cuts.proofs.list.put_choices.Goals as goal

pub single-requires : goal.single-requires
single-requires c =
    let here : at c.args.nodes.now c.args.fanin ≡ Input = rw (← c.as_slice.ensures.value, ← c.from.ensures) c.in-Input.is in
    above_zero c.args.nodes.now c.args.fanin Input c.as_slice.ensures.sound c.requires.inside here refl

pub single-requires-in-Gate : goal.single-requires-in-Gate
single-requires-in-Gate c =
    let here : at c.args.nodes.now c.args.fanin ≡ Gate c.in-Gate.field-0 = rw (← c.as_slice.ensures.value, ← c.from.ensures) c.in-Gate.is in
    above_zero c.args.nodes.now c.args.fanin (Gate c.in-Gate.field-0) c.as_slice.ensures.sound c.requires.inside here refl

use Rattle.std.proofs.Common.{◌≡◌, ap, ◌∙◌, arith}
use Rattle.drawing.specs.declared.node.Node.TheVariants.{Gate}
use Rattle.drawing.specs.Drawing.{at}
use Rattle.drawing.proofs.Sound.{gate_range}
use Rattle.cuts.specs.Leaves.{sets_of}
use Rattle.cuts.proofs.Choosing.{left_below, right_below, joins_listed, made_in}
use Rattle.cuts.proofs.list.list_in.Goals as goal

pub overflow_cast-pair : goal.overflow_cast-pair
overflow_cast-pair c =
    let nodes = c.args.nodes.now in
    let here : at nodes c.args.gate ≡ Gate c.in-Gate.pair = rw (← c.as_slice.ensures.value, ← c.from.ensures) c.in-Gate.is in
    omega (arith, left_below nodes c.args.gate c.in-Gate.pair c.as_slice.ensures.sound (gate_range nodes c.args.gate c.requires.tied) here)

pub put_choices-requires-clause-inside : goal.put_choices-requires-clause-inside
put_choices-requires-clause-inside c =
    let nodes = c.args.nodes.now in
    let here : at nodes c.args.gate ≡ Gate c.in-Gate.pair = rw (← c.as_slice.ensures.value, ← c.from.ensures) c.in-Gate.is in
    let l = gate_range nodes c.args.gate c.requires.tied in
    omega (arith, left_below nodes c.args.gate c.in-Gate.pair c.as_slice.ensures.sound l here, l)

pub overflow_cast-pair-2 : goal.overflow_cast-pair-2
overflow_cast-pair-2 c =
    let nodes = c.args.nodes.now in
    let here : at nodes c.args.gate ≡ Gate c.in-Gate.pair = rw (← c.as_slice.ensures.value, ← c.from.ensures) c.in-Gate.is in
    omega (arith, right_below nodes c.args.gate c.in-Gate.pair c.as_slice.ensures.sound (gate_range nodes c.args.gate c.requires.tied) here)

pub put_choices-requires-2-clause-inside : goal.put_choices-requires-2-clause-inside
put_choices-requires-2-clause-inside c =
    let nodes = c.args.nodes.now in
    let here : at nodes c.args.gate ≡ Gate c.in-Gate.pair = rw (← c.as_slice.ensures.value, ← c.from.ensures) c.in-Gate.is in
    let l = gate_range nodes c.args.gate c.requires.tied in
    omega (arith, right_below nodes c.args.gate c.in-Gate.pair c.as_slice.ensures.sound l here, l)

pub returns : goal.returns
returns c =
    let nodes = c.args.nodes.now in
    let gate = c.args.gate in
    let k = c.args.width in
    let p = c.in-Gate.pair in
    let here : at nodes gate ≡ Gate p = rw (← c.as_slice.ensures.value, ← c.from.ensures) c.in-Gate.is in
    let rows = c.enumerate.new.rows.items in
    let made = joins_listed nodes gate p c.as_slice.ensures.sound (gate_range nodes gate c.requires.tied) here k c.args.left.now c.args.right.now c.requires.first c.requires.second
    (sets_of c.deref.result.now) (sets_of c.deref-2.result.now) (ap sets_of c.deref.ensures.0 ∙ c.put_choices.ensures.all) (ap sets_of c.deref-2.ensures.0 ∙ c.put_choices-2.ensures.all)
    rows c.enumerate.ensures in
    made_in nodes k gate rows c.deref-3.result.now made c.deref-3.ensures.0 c.as_list.result c.as_list.ensures

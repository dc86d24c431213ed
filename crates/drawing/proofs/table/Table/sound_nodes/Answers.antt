use Rattle.drawing.proofs.Lawful.{lawful_says}
use Rattle.drawing.proofs.table.Table.sound_nodes.Goals as goal

pub of-requires : goal.of-requires
of-requires c =
    let t = c.args.self.now in
    rw c.nodes.ensures (lawful_says t.nodes.items t.outputs.items t.law).nodes_sound

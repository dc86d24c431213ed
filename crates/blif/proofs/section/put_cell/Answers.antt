use Rattle.std.proofs.Common.{◌∷◌, ap}
use Rattle.blif.specs.Text.{node_name, node_names}
use Rattle.pen.proofs.Wrote.{wrote_then, wrote_is}
use Rattle.blif.proofs.section.put_cell.Goals as goal

pub returns : goal.returns
returns c =
    let e = c.leaves.ensures.is in
    wrote_then (wrote_then (wrote_then (wrote_then c.text.ensures (wrote_is c.put_nodes.ensures (ap node_names e))) (wrote_is c.put_name.ensures (ap (λ n. 32 ∷ node_name n) c.from.ensures))) c.text-2.ensures)
    c.put_table.ensures

use Rattle.std.proofs.Common.{◌≡◌, ◌<◌, true, sym, subst}
use Rattle.drawing.specs.Sets.{below}
use Rattle.cells.specs.declared.cell.Cell.{Cell}
use Rattle.cells.specs.Netlists.{netlist_of}
use Rattle.cells.specs.Laws.{cell_lawful, names_of, roots_of}
use Rattle.cells.proofs.Laws.{gate_lawful}
use Rattle.cells.proofs.cover.Cover.push_gate.Goals as goal

pub push_cell-requires : goal.push_cell-requires
push_cell-requires c =
    let n = netlist_of c.args.self.now in
    let e = sym c.cell.ensures in
    record {
      room = c.requires.room;
      positive = subst (λ (x : Cell). 0 < x.root) e c.requires.positive;
      above = subst (λ (x : Cell). below x.root (roots_of n) ≡ true) e c.requires.above;
      law = subst (λ (x : Cell). cell_lawful n.inputs (names_of n) x ≡ true) e
          (gate_lawful n.inputs (names_of n) c.args.cone.now.nodes.now c.args.cone.now.root c.args.cone.now.leaves.now c.args.cone.now.few c.requires.fresh c.requires.rising c.requires.known);
    }

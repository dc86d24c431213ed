use Rattle.std.proofs.Common.{◌≡◌, true, List, sym, subst, arith}
use Rattle.cells.specs.declared.cell.Cell.{Cell}
use Rattle.cells.specs.declared.cover.Cover.{Cover}
use Rattle.cells.specs.Netlist.{netlist}
use Rattle.cells.specs.Netlists.{netlist_of}
use Rattle.cells.specs.Laws.{lawful_cover}
use Rattle.cells.proofs.Laws.{lawful_cell}
use Rattle.cells.proofs.cover.Cover.push_cell.Goals as goal

pub invariant_of-self-clause-law : goal.invariant_of-self-clause-law
invariant_of-self-clause-law c =
    let s : Cover = c.args.self.now in
    let n = netlist_of s in
    subst (λ (cs : List Cell). lawful_cover (netlist n.inputs cs n.outputs) ≡ true) (sym c.push.ensures.items)
    (lawful_cell n c.args.cell s.law c.requires.positive (omega arith) c.requires.above c.requires.law)

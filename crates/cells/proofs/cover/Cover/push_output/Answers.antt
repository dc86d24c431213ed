use Rattle.std.proofs.Common.{◌≡◌, ℕ, true, List, sym, subst}
use Rattle.cells.specs.declared.cover.Cover.{Cover}
use Rattle.cells.specs.Netlist.{netlist}
use Rattle.cells.specs.Netlists.{netlist_of}
use Rattle.cells.specs.Laws.{lawful_cover}
use Rattle.cells.proofs.Laws.{lawful_output}
use Rattle.cells.proofs.cover.Cover.push_output.Goals as goal

pub invariant_of-self-clause-law : goal.invariant_of-self-clause-law
invariant_of-self-clause-law c =
    let s : Cover = c.args.self.now in
    let n = netlist_of s in
    subst (λ (os : List ℕ). lawful_cover (netlist n.inputs n.cells os) ≡ true) (sym c.push.ensures.items)
    (lawful_output n c.args.literal s.law c.requires.law)

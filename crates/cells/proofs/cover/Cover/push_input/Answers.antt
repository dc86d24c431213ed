use Rattle.std.proofs.Common.{◌≡◌, ℕ, true, List, sym, subst, arith}
use Rattle.cells.specs.declared.cover.Cover.{Cover}
use Rattle.cells.specs.Netlist.{netlist}
use Rattle.cells.specs.Netlists.{netlist_of}
use Rattle.cells.specs.Laws.{lawful_cover}
use Rattle.cells.proofs.Laws.{lawful_input}
use Rattle.cells.proofs.cover.Cover.push_input.Goals as goal

pub invariant_of-self-clause-law : goal.invariant_of-self-clause-law
invariant_of-self-clause-law c =
    let s : Cover = c.args.self.now in
    let n = netlist_of s in
    subst (λ (is : List ℕ). lawful_cover (netlist is n.cells n.outputs) ≡ true) (sym c.push.ensures.items)
    (lawful_input n c.args.number s.law c.requires.cells c.requires.outputs c.requires.positive (omega arith) c.requires.above)

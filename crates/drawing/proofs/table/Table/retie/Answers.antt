use Rattle.std.proofs.Common.{set, sym, length-set, arith}
use Rattle.arrayvec.proofs.ArrayVecLemmas.{items-with_items}
use Rattle.drawing.specs.declared.node.Node.TheVariants.{Gate}
use Rattle.drawing.proofs.Lawful.{lawful_tie}
use Rattle.drawing.proofs.table.Table.retie.Goals as goal

pub invariant_of-self : goal.invariant_of-self
invariant_of-self c =
    let t = c.args.self.now in
    let tied = set t.nodes.items c.args.gate (Gate c.args.pair) in
    let kept = items-with_items t.nodes tied (length-set t.nodes.items c.args.gate (Gate c.args.pair)) in
    record {
      within = rw (c.deref_mut.ensures.value, c.from-2.ensures, kept)
          (omega (arith, t.within.0, length-set t.nodes.items c.args.gate (Gate c.args.pair)), t.within.1);
      law = rw (c.deref_mut.ensures.value, c.from-2.ensures, kept)
          (lawful_tie t.nodes.items t.outputs.items c.args.gate c.args.pair t.law (sym c.if-not-is_gate.ensures) (rw c.from.ensures at (sym c.if-not-is_below.ensures)));
    }

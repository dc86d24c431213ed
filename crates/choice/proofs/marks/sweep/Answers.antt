use Rattle.std.proofs.Common.{◌≡◌, false, map, length, replicate, subst, ap, ◌∙◌, arith}
use Rattle.drawing.specs.Drawing.{node_of}
use Rattle.drawing.specs.Tables.{drawing_of}
use Rattle.drawing.proofs.Lawful.{lawful_says}
use Rattle.drawing.proofs.Lists.{none_marked}
use Rattle.choice.specs.Marks.{mark_all}
use Rattle.choice.proofs.Marking.{Marking, marking_start, marking_skip, edges_within, marking_step, marking_done, outputs_within}
use Rattle.choice.proofs.marks.sweep.Goals as goal

pub mark-requires : goal.mark-requires
mark-requires g c =
    let d = drawing_of c.args.table.now in
    let few = (lawful_says d.nodes d.outputs c.args.table.now.law).nodes_few in
    rw c.outputs.ensures (outputs_within d.nodes d.outputs c.args.table.now.law 256 (omega arith))

pub loop-v-init : goal.loop-v-init
loop-v-init g c =
    let d = drawing_of c.args.table.now in
    let law = c.args.table.now.law in
    let few = (lawful_says d.nodes d.outputs law).nodes_few in
    rw c.nodes-v.ensures (marking_start _ _ _ c.requires _ _ (none_marked 256) (outputs_within _ _ law _ (omega arith)) (omega arith) (c.mark.ensures ∙ ap (λ os. mark_all (replicate 256 false) (map node_of os)) c.outputs.ensures))

pub mark_from-requires : goal.mark_from-requires
mark_from-requires g c = edges_within _ _ _ c.requires _ _ (omega arith) (omega (arith, ap length c.nodes-v.ensures)) c.loop-v.invariant

pub loop-v-preserved-then-marks-v : goal.loop-v-preserved-then-marks-v
loop-v-preserved-then-marks-v g c = marking_step _ _ _ c.requires _ _ _ (omega arith) (omega (arith, ap length c.nodes-v.ensures)) c.loop-v.invariant c.if-marks-v.true c.mark_from.ensures

pub loop-v-preserved : goal.loop-v-preserved
loop-v-preserved g c = marking_skip _ _ _ c.requires _ _ (omega arith) c.loop-v.invariant c.if-marks-v.false

pub returns : goal.returns
returns g c =
    let d = drawing_of c.args.table.now in
    let none : c.loop-v.v ≡ 0 = omega arith in
    marking_done _ _ _ c.requires _ (subst (λ v. Marking (g.E.Edges.leads c.args.edges.now) (length d.nodes) d.outputs v c.loop-v.marks) none c.loop-v.invariant)

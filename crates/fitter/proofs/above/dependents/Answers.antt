use Rattle.std.proofs.Common.{◌≡◌, ◌<◌, ◌≤◌, refl, false, true, List, length, get_or, set, replicate, sym, ap, ◌∙◌, subst, arith, length-set}
use Rattle.std.proofs.lemmas.Bool.{both_ways}
use Rattle.drawing.proofs.Lawful.{lawful_says}
use Rattle.drawing.specs.declared.node.Node.{Node}
use Rattle.drawing.specs.Drawing.{at, fanins}
use Rattle.drawing.specs.Sets.{below, some}
use Rattle.drawing.specs.Tables.{drawing_of}
use Rattle.fitter.proofs.Dependents.{one_mark, marked_start, marked_step, marked_done, fanins_within}
use Rattle.fitter.proofs.above.dependents.Goals as goal
use Rattle.fitter.proofs.above.dependents.Goals.{then-leads_to_marked, else-leads_to_marked}

pub loop-v-init : goal.loop-v-init
loop-v-init c =
    let t = c.args.table.now in
    let of = c.args.of in (
      simp length-set refl,
      marked_start (drawing_of t).nodes (lawful_says _ _ t.law).nodes_sound of _
          (λ u. ap (λ z. get_or (set (replicate 256 false) z true) u false) c.from.ensures ∙ one_mark 256 of u (omega arith)),
    )

pub leads_to_marked-requires : goal.leads_to_marked-requires
leads_to_marked-requires c =
    let t = c.args.table.now in
    let l = c.loop-v in
    let law = lawful_says _ _ t.law in
    let inside : l.v < length (drawing_of t).nodes = omega (arith, ap length c.nodes-node-items.ensures) in
    subst (λ (z : List Node). below (length l.marks) (fanins (at z l.v)) ≡ true) (sym c.nodes-node-items.ensures)
    (fanins_within (drawing_of t).nodes law.nodes_sound c.args.of l.v (length l.marks) inside (omega (arith, l.invariant.0, law.nodes_few)))

pub loop-v-preserved : goal.loop-v-preserved
loop-v-preserved c =
    let t = c.args.table.now in
    let nodes = (drawing_of t).nodes in
    let law = lawful_says _ _ t.law in
    let l = c.loop-v in
    let b = c.leads_to_marked.result in
    let inside : l.v < length nodes = omega (arith, ap length c.nodes-node-items.ensures) in
    let room : l.v < length l.marks = omega (arith, l.invariant.0, law.nodes_few) in
    let leads = c.leads_to_marked.ensures ∙ ap (λ (z : List Node). some (λ f. get_or l.marks f false) (fanins (at z l.v))) c.nodes-node-items.ensures in
    elim c.if-leads_to_marked.branch [
      | then-leads_to_marked w ↦ (
        ap length w.marks-is ∙ simp length-set l.invariant.0,
        marked_step nodes law.nodes_sound c.args.of l.v l.marks c.if-leads_to_marked.marks b inside room l.invariant.1 leads
            (λ _. w.marks-is) (λ h. absurd (both_ways b h w.if-leads_to_marked.true)),
      )
      | else-leads_to_marked w ↦ (
        ap length w.marks-is ∙ l.invariant.0,
        marked_step nodes law.nodes_sound c.args.of l.v l.marks c.if-leads_to_marked.marks b inside room l.invariant.1 leads
            (λ h. absurd (both_ways b w.if-leads_to_marked.false h)) (λ _. w.marks-is),
      )
    ]

pub returns : goal.returns
returns c =
    let t = c.args.table.now in
    let gone : length (drawing_of t).nodes ≤ c.loop-v.v = omega (arith, ap length c.nodes-node-items.ensures) in
    marked_done (drawing_of t).nodes (lawful_says _ _ t.law).nodes_sound c.args.of c.loop-v.v c.loop-v.marks gone c.loop-v.invariant.1

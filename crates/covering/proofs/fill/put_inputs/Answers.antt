use Rattle.std.proofs.Common.{◌≡◌, ◌<◌, true, [], length, sym, ap, ◌∙◌, subst, arith}
use Rattle.std.proofs.lemmas.List.{take_all}
use Rattle.drawing.specs.Sets.{below}
use Rattle.drawing.specs.Drawing.{sound}
use Rattle.drawing.specs.Values.{inputs_of}
use Rattle.cells.specs.Limits.{most_inputs}
use Rattle.cells.specs.Netlists.{netlist_of}
use Rattle.cells.specs.Netlist.{Netlist, netlist, with_input}
use Rattle.covering.proofs.Passes.{inputs_more, inputs_skip, input_above, input_positive, input_room, table_says}
use Rattle.covering.proofs.fill.put_inputs.Goals as goal
use Rattle.covering.proofs.fill.put_inputs.Goals.{then-is_input, else-is_input}

pub push_input-requires : goal.push_input-requires
push_input-requires c =
    let nodes = c.nodes-nodes.result.now in
    let v = c.loop-number.number in
    let l = c.loop-number-test.true in
    let is = sym c.if-is_input.ensures in
    let e = sym c.loop-number.invariant in
    let w = table_says c.args.table.now in
    let same = c.nodes-nodes.ensures in
    let right : sound nodes ≡ true = rw same w.nodes_sound in
    record {
      room = subst (λ (n : Netlist). length n.inputs < most_inputs) e (omega (arith, input_room nodes v l right is, ap length same, w.nodes_few));
      cells = ap (λ (n : Netlist). n.cells) c.loop-number.invariant;
      outputs = ap (λ (n : Netlist). n.outputs) c.loop-number.invariant;
      positive = input_positive nodes v l right is;
      above = subst (λ (n : Netlist). below v n.inputs ≡ true) e (input_above nodes v l);
    }

pub loop-number-preserved : goal.loop-number-preserved
loop-number-preserved c =
    let nodes = c.nodes-nodes.result.now in
    let v = c.loop-number.number in
    let l = c.loop-number-test.true in
    elim c.if-is_input.branch [
      | then-is_input w ↦ ap netlist_of w.cover-is ∙ w.push_input.ensures ∙ ap (λ n. with_input n v) c.loop-number.invariant
          ∙ ap (λ is. netlist is [] []) (inputs_more nodes v l (sym w.if-is_input.ensures))
      | else-is_input w ↦ ap netlist_of w.cover-is ∙ c.loop-number.invariant ∙ ap (λ is. netlist is [] []) (inputs_skip nodes v l (sym w.if-is_input.ensures))
    ]

pub returns : goal.returns
returns c =
    c.loop-number.invariant ∙ ap (λ ns. netlist (inputs_of ns) [] []) (take_all c.loop-number.number c.nodes-nodes.result.now c.loop-number-test.false ∙ c.nodes-nodes.ensures)

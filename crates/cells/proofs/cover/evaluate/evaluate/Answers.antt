use Rattle.std.proofs.Common.{◌≡◌, ℕ, ltb, List, ◌++◌, map, length, get_or, take, drop, is_ok, None, Ok, sym, ap, ◌∙◌, subst, arith}
use Rattle.std.proofs.lemmas.List.{length-map, take_at}
use Rattle.std.proofs.lemmas.Bool.{cond-true, and_parts}
use Rattle.drawing.specs.Sets.{every, rises}
use Rattle.drawing.specs.Drawing.{node_of, most_nodes}
use Rattle.drawing.specs.Values.{bound}
use Rattle.cells.specs.declared.cell.Cell.{Cell}
use Rattle.cells.specs.declared.cover.Cover.{Cover}
use Rattle.cells.specs.Netlist.{Netlist, look, plain, after, settled, output_value, answers}
use Rattle.cells.specs.Netlists.{netlist_of}
use Rattle.cells.specs.Evaluate.{Holds, first_above, evaluate_answer}
use Rattle.cells.proofs.Bytes.{binary_row, row_accepted}
use Rattle.cells.proofs.Laws.{cover_says, cover_outputs}
use Rattle.cells.proofs.Settle.{outputs_same}
use Rattle.cells.proofs.Agree.{covers_agree}
use Rattle.cells.proofs.cover.evaluate.evaluate.Goals as goal

pub bind_inputs-values-requires : goal.bind_inputs-values-requires
bind_inputs-values-requires c =
    let s : Cover = c.args.cover.now in
    record { long = omega arith; small = binary_row c.args.row.now (sym c.first_above_one.ensures ∙ c.in_default.is); rising = ap (rises 0) c.inputs-inputs.ensures.is ∙ (and_parts (rises 0 (netlist_of s).inputs) _ (cover_says (netlist_of s) s.law).inputs_numbered).0 }

pub write_outputs-requires : goal.write_outputs-requires
write_outputs-requires c =
    let s : Cover = c.args.cover.now in
    record {
      there = ap (every (λ l. ltb (node_of l) most_nodes)) c.outputs-outputs.ensures.is ∙ cover_outputs (netlist_of s) s.law;
      room = omega arith;
    }

pub returns : goal.returns
returns c =
    let s : Cover = c.args.cover.now in
    let n : Netlist = netlist_of s in
    let row = c.args.row.now in
    let old = c.args.out.now in
    let none : first_above row ≡ None = sym c.first_above_one.ensures ∙ c.in_default.is in
    let li = ap length c.inputs-inputs.ensures.is in
    let lo = ap length c.outputs-outputs.ensures.is in
    let v : evaluate_answer n row old ≡ Ok tt = row_accepted n row old (omega arith) (omega arith) none in
    let f : ℕ → ℕ = λ k. get_or c.settle_cells.new.values.bits k 0 in
    let start : Holds c.bind_inputs-values.result.bits (bound (map plain n.inputs) row) =
    subst (λ (is : List ℕ). Holds c.bind_inputs-values.result.bits (bound (map plain is) row)) c.inputs-inputs.ensures.is c.bind_inputs-values.ensures in
    let held : Holds c.settle_cells.new.values.bits (settled n row) =
    subst (λ (cs : List Cell). Holds c.settle_cells.new.values.bits (after (bound (map plain n.inputs) row) cs)) c.cells.ensures.is
    (c.settle_cells.ensures (bound (map plain n.inputs) row) start) in
    let b : c.write_outputs.new.out ≡ answers n row ++ drop (length n.outputs) old =
    c.write_outputs.ensures
    ∙ ap (λ os. map (output_value f) os ++ drop (length os) old) c.outputs-outputs.ensures.is
    ∙ ap (λ xs. xs ++ drop (length n.outputs) old) (outputs_same f (look (settled n row)) held n.outputs) in
    let l : length (answers n row) ≡ length n.outputs = length-map n.outputs (output_value (look (settled n row))) in
    record {
      answer = sym v;
      buffer = b ∙ sym (cond-true (is_ok (evaluate_answer n row old)) _ _ (ap is_ok v));
      agrees = λ d covers e.
          ap (take (length n.outputs)) b ∙ take_at (answers n row) (drop (length n.outputs) old) (length n.outputs) l
          ∙ covers_agree d n row s.law covers (binary_row row none);
    }

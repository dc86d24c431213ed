use Rattle.std.proofs.Common.{◌≡◌, ◌<◌, true, [], ◌∷◌, ◌++◌, length, get_or, take, sym, ap, ◌∙◌, subst, arith}
use Rattle.std.proofs.lemmas.List.{take_all, take_more, length-take-le}
use Rattle.drawing.specs.Drawing.{most_outputs}
use Rattle.drawing.specs.Tables.{drawing_of}
use Rattle.drawing.proofs.Members.{every_at}
use Rattle.cells.specs.Netlist.{Netlist, netlist, with_output}
use Rattle.cells.specs.Netlists.{netlist_of}
use Rattle.cells.specs.Laws.{names_of, output_lawful}
use Rattle.covering.proofs.Passes.{table_says}
use Rattle.covering.proofs.fill.put_outputs.Goals as goal

pub push_output-requires : goal.push_output-requires
push_output-requires c =
    let outs = (drawing_of c.args.table.now).outputs in
    let same = c.outputs-outputs.ensures in
    let i = c.loop-output.output-index in
    let inside : i < length outs = omega (arith, ap length same) in
    let e = sym c.loop-output.invariant in
    record {
      room = subst (λ (n : Netlist). length n.outputs < most_outputs) e (omega (arith, length-take-le i outs (omega arith), (table_says c.args.table.now).outputs_few));
      law = subst (λ (n : Netlist). output_lawful (names_of n) (get_or c.outputs-outputs.result.now i 0) ≡ true) e (rw same (every_at (output_lawful (names_of (netlist_of c.args.cover.now))) outs i 0 c.requires.named inside));
    }

pub loop-output-init : goal.loop-output-init
loop-output-init c = ap (netlist (netlist_of c.args.cover.now).inputs (netlist_of c.args.cover.now).cells) c.requires.bare

pub loop-output-preserved : goal.loop-output-preserved
loop-output-preserved c =
    let n = netlist_of c.args.cover.now in
    let outs = (drawing_of c.args.table.now).outputs in
    let same = c.outputs-outputs.ensures in
    let i = c.loop-output.output-index in
    let inside : i < length outs = omega (arith, ap length same) in
    c.push_output.ensures ∙ ap (λ m. with_output m (get_or c.outputs-outputs.result.now i 0)) c.loop-output.invariant
    ∙ ap (λ os. netlist n.inputs n.cells (take i outs ++ get_or os i 0 ∷ [])) same
    ∙ ap (netlist n.inputs n.cells) (sym (take_more outs i 0 inside))

pub returns : goal.returns
returns c =
    let n = netlist_of c.args.cover.now in
    let outs = (drawing_of c.args.table.now).outputs in
    c.loop-output.invariant ∙ ap (netlist n.inputs n.cells) (take_all c.loop-output.output-index outs (omega (arith, ap length c.outputs-outputs.ensures)))

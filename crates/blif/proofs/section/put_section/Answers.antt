use Rattle.std.proofs.Common.{◌-◌, ltb, [], length, get_or, sym, ap, ◌∙◌, arith}
use Rattle.std.proofs.lemmas.Bool.{ltb-true}
use Rattle.drawing.specs.Sets.{every}
use Rattle.drawing.specs.Drawing.{node_of, most_nodes}
use Rattle.drawing.proofs.Members.{every_at}
use Rattle.cells.specs.declared.cell.Cell.{Cell}
use Rattle.cells.specs.declared.cover.Cover.{Cover}
use Rattle.cells.specs.Netlist.{Netlist}
use Rattle.cells.specs.Netlists.{netlist_of}
use Rattle.cells.proofs.Laws.{cover_outputs}
use Rattle.blif.specs.Text.{cell_text, output_text}
use Rattle.pen.proofs.Wrote.{wrote_is}
use Rattle.blif.proofs.Texts.{section_count_lem, section_cell, section_output, section_end}
use Rattle.blif.proofs.section.put_section.Goals as goal

pub put_output-requires : goal.put_output-requires
put_output-requires c =
    let s : Cover = c.args.cover.now in
    let k = c.args.section - 1 - length c.cells-cells.result.now in
    let there = ap (every (λ l. ltb (node_of l) most_nodes)) c.outputs-outputs.ensures.is ∙ cover_outputs (netlist_of s) s.law in
    record {
      few = omega (arith, c.outputs-outputs.ensures.few);
      there = ltb-true _ most_nodes (every_at (λ l. ltb (node_of l) most_nodes) c.outputs-outputs.result.now k 0 there (omega arith));
    }

pub returns-then-section-cells : goal.returns-then-section-cells
returns-then-section-cells c =
    let n : Netlist = netlist_of c.args.cover.now in
    let i = c.args.section in
    let e = c.cells-cells.ensures.is in
    let l = ap length e in
    let d : Cell = record { root = 0; count = 0; leaves = []; table = 0 } in
    wrote_is c.put_cell.ensures (ap (λ cs. cell_text (get_or cs (i - 1) d)) e ∙ sym (section_cell n i d (omega arith) (omega arith)))

pub returns-then-k-outputs : goal.returns-then-k-outputs
returns-then-k-outputs c =
    let n : Netlist = netlist_of c.args.cover.now in
    let i = c.args.section in
    let k = i - 1 - length c.cells-cells.result.now in
    let e = c.outputs-outputs.ensures.is in
    let lc = ap length c.cells-cells.ensures.is in
    let lo = ap length e in
    wrote_is c.put_output.ensures (ap (λ os. output_text k (get_or os k 0)) e ∙ sym (section_output n i k (omega arith) (omega arith) (omega arith)))

pub returns : goal.returns
returns c =
    let n : Netlist = netlist_of c.args.cover.now in
    let lc = ap length c.cells-cells.ensures.is in
    let lo = ap length c.outputs-outputs.ensures.is in
    let count = section_count_lem n in
    let below = c.requires in
    wrote_is c.text.ensures (sym (section_end n c.args.section (omega arith)))

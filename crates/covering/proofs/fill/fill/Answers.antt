use Rattle.std.proofs.Common.{◌≡◌, true, length, sym, ap, ◌∙◌, subst}
use Rattle.drawing.specs.Drawing.{most_leaves}
use Rattle.drawing.specs.Sets.{every}
use Rattle.drawing.specs.Tables.{drawing_of}
use Rattle.cuts.specs.Leaves.{sets_of}
use Rattle.choice.proofs.Cells.{chosen_under}
use Rattle.cells.specs.Netlist.{Netlist}
use Rattle.cells.specs.Netlists.{netlist_of}
use Rattle.cells.specs.Laws.{names_of, output_lawful}
use Rattle.covering.proofs.Filled.{marked_rival, rival_bare, outputs_right, filled_is, filled_count}
use Rattle.covering.proofs.fill.fill.Goals as goal

pub reached_by-marks-requires : goal.reached_by-marks-requires
reached_by-marks-requires g c =
    let F = g.F.Family.delay c.args.family.now in
    let L = g.met.F.Family.lawful c.args.family.now in
    let d = drawing_of c.args.taken.now.table.now in
    chosen_under F L d.nodes d.outputs c.args.taken.now.table.now.law c.args.width c.requires.wide.0 (sets_of c.args.taken.now.cuts.now) c.requires.taken

pub put_cells-requires : goal.put_cells-requires
put_cells-requires g c =
    let F = g.F.Family.delay c.args.family.now in
    let L = g.met.F.Family.lawful c.args.family.now in
    let d = drawing_of c.args.taken.now.table.now in
    record {
      stands = rival_bare d.nodes d.outputs c.args.width most_leaves _ _ c.requires.wide.1 (marked_rival F L d.nodes d.outputs c.args.taken.now.table.now.law c.args.width c.requires.wide.0 (sets_of c.args.taken.now.cuts.now) c.requires.taken c.reached_by-marks.result c.reached_by-marks.ensures);
      bare = c.put_inputs.ensures;
    }

pub put_outputs-requires : goal.put_outputs-requires
put_outputs-requires g c =
    let F = g.F.Family.delay c.args.family.now in
    let L = g.met.F.Family.lawful c.args.family.now in
    let d = drawing_of c.args.taken.now.table.now in
    record {
      bare = ap (λ (n : Netlist). n.outputs) c.put_cells.ensures;
      named = subst (λ (n : Netlist). every (output_lawful (names_of n)) d.outputs ≡ true) (sym c.put_cells.ensures) (outputs_right F L d.nodes d.outputs c.args.taken.now.table.now.law c.args.width c.requires.wide.0 (sets_of c.args.taken.now.cuts.now) c.requires.taken c.reached_by-marks.result c.reached_by-marks.ensures c.requires.wide.1);
    }

pub returns : goal.returns
returns g c =
    let F = g.F.Family.delay c.args.family.now in
    let L = g.met.F.Family.lawful c.args.family.now in
    let d = drawing_of c.args.taken.now.table.now in
    let m = netlist_of c.put_cells.new.cover in
    let n = netlist_of c.put_outputs.new.cover in
    record {
      netlist = filled_is F L d.nodes d.outputs c.args.taken.now.table.now.law c.args.width c.requires.wide.0 (sets_of c.args.taken.now.cuts.now) c.requires.taken c.reached_by-marks.result c.reached_by-marks.ensures m n c.put_cells.ensures c.put_outputs.ensures;
      count = ap length c.cells.ensures.is ∙ filled_count F L d.nodes d.outputs c.args.taken.now.table.now.law c.args.width c.requires.wide.0 (sets_of c.args.taken.now.cuts.now) c.requires.taken c.reached_by-marks.result c.reached_by-marks.ensures m n c.put_cells.ensures c.put_outputs.ensures;
    }

use Rattle.std.proofs.Common.{◌≡◌, ℕ, ◌<◌, ◌≤◌, Bool, true, false, List, [], length, sym, ap, ◌∙◌, subst, le_refl, arith}
use Rattle.std.proofs.lemmas.Bool.{and_from, and_left, and_right}
use Rattle.drawing.specs.Sets.{below, mem, rises}
use Rattle.drawing.specs.Drawing.{at, is_gate, most_leaves}
use Rattle.drawing.specs.Tables.{drawing_of}
use Rattle.cuts.specs.Leaves.{leaves_of, sets_of}
use Rattle.cells.specs.Limits.{most_cells}
use Rattle.cells.specs.Netlist.{Netlist, with_cell, cell_of}
use Rattle.cells.specs.Netlists.{netlist_of}
use Rattle.cells.specs.Laws.{known, names_of, roots_of}
use Rattle.covering.specs.Chosen.{cover_up_to, marked_gate, set_at}
use Rattle.covering.proofs.RivalCover.{piece_positive, piece_above, piece_fresh, piece_few, piece_rising, piece_known, piece_room, upto_more, upto_skip}
use Rattle.covering.proofs.Passes.{stored_at, table_says}
use Rattle.covering.proofs.fill.put_cells.Goals as goal
use Rattle.covering.proofs.fill.put_cells.Goals.{then-is_gate+then-marks-v, else-is_gate, else-is_gate-via-then-is_gate+else-marks-v, else-is_gate-via-else-is_gate}

pub push_gate-requires : goal.push_gate-requires
push_gate-requires c =
    let nodes = (drawing_of c.args.taken.now.table.now).nodes in
    let picked = marked_gate nodes c.args.marks.now in
    let given = set_at (sets_of c.args.taken.now.cuts.now) in
    let v = c.loop-v.v in
    let w = table_says c.args.taken.now.table.now in
    let right = w.nodes_sound in
    let inside : v < length nodes = omega (arith, ap length c.nodes-nodes.ensures) in
    let few = le_refl most_leaves in
    let R = c.requires.stands in
    let here = and_from _ _ (subst (λ ns. is_gate (at ns v) ≡ true) c.nodes-nodes.ensures (sym c.if-is_gate.ensures)) c.if-marks-v.true in
    let e = sym c.loop-v.invariant in
    let ls = sym (c.leaves.ensures ∙ stored_at leaves_of c.args.taken.now.cuts.now v c.index-cuts-v.result (omega arith) c.index-cuts-v.is) in
    record {
      room = subst (λ (n : Netlist). length n.cells < most_cells) e (omega (arith, piece_room nodes [] most_leaves picked given right few R v here w.nodes_few, w.nodes_few));
      positive = piece_positive nodes [] most_leaves picked given right few R v here;
      above = subst (λ (n : Netlist). below v (roots_of n) ≡ true) e (piece_above nodes [] most_leaves picked given right few R v here);
      fresh = subst (λ (n : Netlist). mem v n.inputs ≡ false) e (piece_fresh nodes [] most_leaves picked given right few R v here);
      rising = subst (λ (s : List ℕ). rises 0 s ≡ true) ls (piece_rising nodes [] most_leaves picked given right few R v here);
      known = subst (λ (n : Netlist). known (names_of n) c.leaves.result.now ≡ true) e (subst (λ (s : List ℕ). known (names_of (cover_up_to nodes picked given v)) s ≡ true) ls (piece_known nodes [] most_leaves picked given right few R v here));
    }

pub invariant_of-cone : goal.invariant_of-cone
invariant_of-cone c =
    let nodes = (drawing_of c.args.taken.now.table.now).nodes in
    let picked = marked_gate nodes c.args.marks.now in
    let given = set_at (sets_of c.args.taken.now.cuts.now) in
    let v = c.loop-v.v in
    let here = and_from _ _ (subst (λ ns. is_gate (at ns v) ≡ true) c.nodes-nodes.ensures (sym c.if-is_gate.ensures)) c.if-marks-v.true in
    let ls = sym (c.leaves.ensures ∙ stored_at leaves_of c.args.taken.now.cuts.now v c.index-cuts-v.result (omega (arith, ap length c.nodes-nodes.ensures)) c.index-cuts-v.is) in
    record {
      there = omega (arith, ap length c.sound_nodes-drawn.ensures, ap length c.nodes-nodes.ensures);
      few = subst (λ (s : List ℕ). length s ≤ most_leaves) ls (piece_few nodes [] most_leaves picked given (table_says c.args.taken.now.table.now).nodes_sound (le_refl most_leaves) c.requires.stands v here);
    }

pub loop-v-preserved : goal.loop-v-preserved
loop-v-preserved c =
    let nodes = (drawing_of c.args.taken.now.table.now).nodes in
    let picked = marked_gate nodes c.args.marks.now in
    let given = set_at (sets_of c.args.taken.now.cuts.now) in
    let v = c.loop-v.v in
    let e = c.nodes-nodes.ensures in
    let inside : v < length nodes = omega (arith, ap length e) in
    let gate : (b : Bool) → b ≡ is_gate (at c.nodes-nodes.result.now v) → is_gate (at nodes v) ≡ b = λ b h. sym (h ∙ ap (λ ns. is_gate (at ns v)) e) in
    elim c.if-is_gate.branch [
      | then-is_gate+then-marks-v w ↦
          let ls = w.leaves.ensures ∙ stored_at leaves_of c.args.taken.now.cuts.now v w.index-cuts-v.result (omega arith) w.index-cuts-v.is in
          ap netlist_of w.cover-is ∙ w.push_gate.ensures ∙ ap (λ ns. with_cell (netlist_of c.loop-v.cover) (cell_of ns v w.leaves.result.now)) c.sound_nodes-drawn.ensures ∙ ap (λ n. with_cell n (cell_of nodes v w.leaves.result.now)) c.loop-v.invariant
          ∙ ap (λ s. with_cell (cover_up_to nodes picked given v) (cell_of nodes v s)) ls
          ∙ sym (upto_more nodes picked given v (and_from _ _ (gate true w.if-is_gate.ensures) w.if-marks-v.true))
      | else-is_gate w ↦
          ap netlist_of w.cover-is ∙ c.loop-v.invariant
          ∙ sym (upto_skip nodes picked given v
          (elim w.else-is_gate.branch [
            | else-is_gate-via-then-is_gate+else-marks-v x ↦ and_right _ _ x.if-marks-v.false
            | else-is_gate-via-else-is_gate x ↦ and_left _ _ (gate false x.if-is_gate.ensures)
          ]))
    ]

pub returns : goal.returns
returns c =
    let nodes = (drawing_of c.args.taken.now.table.now).nodes in
    let e : c.loop-v.v ≡ length nodes = omega (arith, ap length c.nodes-nodes.ensures) in
    c.loop-v.invariant ∙ ap (cover_up_to nodes (marked_gate nodes c.args.marks.now) (set_at (sets_of c.args.taken.now.cuts.now))) e

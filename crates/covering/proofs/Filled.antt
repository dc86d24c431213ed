-- The marks and the cuts of the needed gates make the chosen cover.
use Rattle.std.proofs.Common.{◌≡◌, ℕ, ◌≤◌, Bool, true, List, [], length, sym, ap, ◌∙◌, subst, arith}
use Rattle.std.specs.List.{range_with_len}
use Rattle.std.proofs.lemmas.List.{length-map}
use Rattle.drawing.specs.declared.node.Node.{Node}
use Rattle.drawing.specs.Sets.{mem, every, keep}
use Rattle.drawing.specs.Drawing.{drawing, node_of, lawful, most_leaves}
use Rattle.drawing.specs.Values.{inputs_of}
use Rattle.drawing.proofs.Members.{in_every, keep_in, keep_same, map_same}
use Rattle.drawing.proofs.Lawful.{lawful_says}
use Rattle.cuts.specs.Cuts.{cut}
use Rattle.family.specs.Family.{Delay, Laws}
use Rattle.choice.specs.Choice.{taken_cut, is_cell, cells, Chosen}
use Rattle.choice.specs.Marks.{Marks, edges_by}
use Rattle.choice.specs.Rivals.{Rival}
use Rattle.choice.proofs.OwnCover.{own_rival}
use Rattle.choice.proofs.Cells.{cells_marked, cell_cut}
use Rattle.cells.specs.Netlist.{Netlist, netlist, cell_of}
use Rattle.cells.specs.Laws.{names_of, output_lawful}
use Rattle.covering.specs.Chosen.{cells_by, chosen, cover_up_to, marked_gate, set_at}
use Rattle.covering.proofs.RivalCover.{output_named}

-- the same gates with the same cuts
rival_same : (nodes : List Node) (outs : List ℕ) (k : ℕ) (p q : ℕ → Bool) (g h : ℕ → List ℕ) → ((v : ℕ) → q v ≡ p v) → ((v : ℕ) → p v ≡ true → g v ≡ h v) → Rival nodes outs k p g → Rival nodes outs k q h
rival_same nodes outs k p q g h same eq R = record {
  gates = λ v c. R.gates v (sym (same v) ∙ c);
  cuts = λ v c. let d = sym (same v) ∙ c in subst (λ s. (cut nodes v s ≡ true) × (length s ≤ k)) (eq v d) (R.cuts v d);
  outputs = λ o i e. same (node_of o) ∙ R.outputs o i e;
  leaves = λ v u c m e. let d = sym (same v) ∙ c in same u ∙ R.leaves v u d (ap (mem u) (eq v d) ∙ m) e;
}

-- a rival stays one without its outputs, and at a greater width
pub rival_bare : (nodes : List Node) (outs : List ℕ) (k n : ℕ) (p : ℕ → Bool) (g : ℕ → List ℕ) → k ≤ n → Rival nodes outs k p g → Rival nodes [] n p g
rival_bare nodes outs k n p g l R = record {
  gates = R.gates;
  cuts = λ v c. let r = R.cuts v c in (r.0, omega (arith, r.1));
  outputs = λ o i e. absurd i;
  leaves = R.leaves;
}

module _ {A : Type 0} (F : Delay A) (L : Laws F) (nodes : List Node) (outs : List ℕ) (law : lawful (drawing nodes outs) ≡ true) (k : ℕ) (wide : 2 ≤ k) (sets : List (List ℕ)) (right : Chosen F nodes outs k (length nodes) sets) (marks : List Bool) (marked : Marks (edges_by nodes sets) (length nodes) outs marks) where
  same_test : (v : ℕ) → marked_gate nodes marks v ≡ is_cell F nodes k outs v
  same_test v = sym (cells_marked F L nodes outs law k wide sets right marks marked v)

  -- the gates marked with their cuts are a rival
  pub marked_rival : Rival nodes outs k (marked_gate nodes marks) (set_at sets)
  marked_rival =
      let w = lawful_says nodes outs law in
      rival_same nodes outs k (is_cell F nodes k outs) (marked_gate nodes marks) (taken_cut F nodes k) (set_at sets) same_test (λ v c. sym (cell_cut F L nodes outs law k wide sets right v c))
      (own_rival F L nodes w.nodes_sound k wide outs w.outputs_named)

  -- each output can be put behind its cells
  pub outputs_right : k ≤ most_leaves → every (output_lawful (names_of (cover_up_to nodes (marked_gate nodes marks) (set_at sets) (length nodes)))) outs ≡ true
  outputs_right few =
      let w = lawful_says nodes outs law in
      in_every (output_lawful (names_of (cover_up_to nodes (marked_gate nodes marks) (set_at sets) (length nodes)))) outs
      (λ o i. output_named nodes outs k (marked_gate nodes marks) (set_at sets) w.nodes_sound few marked_rival o i (w.outputs_named o i))

  -- they are the chosen cells
  pub marked_cells : (cover_up_to nodes (marked_gate nodes marks) (set_at sets) (length nodes)).cells ≡ cells_by nodes (taken_cut F nodes k) (cells F nodes k outs)
  unfolding cells
  marked_cells =
      ap (cells_by nodes (set_at sets)) (keep_same (marked_gate nodes marks) (is_cell F nodes k outs) (range_with_len 0 (length nodes)) (λ v _. same_test v))
      ∙ map_same (λ v. cell_of nodes v (set_at sets v)) (λ v. cell_of nodes v (taken_cut F nodes k v)) (keep (is_cell F nodes k outs) (range_with_len 0 (length nodes)))
      (λ v i. ap (cell_of nodes v) (cell_cut F L nodes outs law k wide sets right v (keep_in (is_cell F nodes k outs) v (range_with_len 0 (length nodes)) i).1))

  -- the cover that the passes leave is the chosen one, and it has as many cells
  module _ (m n : Netlist) (before : m ≡ cover_up_to nodes (marked_gate nodes marks) (set_at sets) (length nodes)) (after : n ≡ netlist m.inputs m.cells outs) where
    pub filled_is : n ≡ chosen F (drawing nodes outs) k
    unfolding chosen
    filled_is = after ∙ ap (λ (x : Netlist). netlist x.inputs x.cells outs) before ∙ ap (λ cs. netlist (inputs_of nodes) cs outs) marked_cells

    pub filled_count : length n.cells ≡ length (cells F nodes k outs)
    filled_count =
        ap (λ (x : Netlist). length x.cells) after ∙ ap (λ (x : Netlist). length x.cells) before ∙ ap length marked_cells
        ∙ length-map (cells F nodes k outs) (λ v. cell_of nodes v (taken_cut F nodes k v))

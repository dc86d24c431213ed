-- What the outputs reach by the cuts that the needed gates take: the cells.
use Rattle.std.proofs.Common.{◌≡◌, ℕ, zero, suc, ◌<◌, ◌≤◌, Bool, true, false, cond, ◌&&◌, ◌||◌, eqb, ltb, List, [], length, get_or, sym, refl, ap, ◌∙◌, subst, ⊎_elim, arith}
use Rattle.std.proofs.lemmas.Bool.{and_from, and_parts, or_cases, eqb-true, cases_Bool, cond-true, cond-false, ltb-true}
use Rattle.drawing.specs.declared.node.Node.{Node}
use Rattle.drawing.specs.Sets.{below, some, In}
use Rattle.drawing.specs.Drawing.{drawing, at, node_of, is_gate, fanins, lawful}
use Rattle.drawing.specs.Reach.{reach, reach_out, needed}
use Rattle.drawing.proofs.Members.{some_same, some_in, every_in, in_mem}
use Rattle.drawing.proofs.SetLaws.{says_below}
use Rattle.drawing.proofs.Lawful.{lawful_says}
use Rattle.drawing.proofs.Sound.{fanins_below_lem, gate_range}
use Rattle.drawing.proofs.ReachLaws.{reach_is, reach_range, reach_ways, out_direct}
use Rattle.cuts.proofs.Leaves.{leaves_depend}
use Rattle.family.specs.Family.{Delay, Laws}
use Rattle.choice.specs.Choice.{taken_cut, edges_of, is_cell, Chosen}
use Rattle.choice.specs.Marks.{Marks, edges_by}
use Rattle.choice.proofs.OwnCover.{taken_listed, edges_below_lem}
use Rattle.choice.proofs.Needed.{reached_down}

-- edges that agree where P holds, and lead on to where it holds, reach the same from there
module _ (e f : ℕ → List ℕ) (size : ℕ) (e_below : (v u : ℕ) → v < size → In u (e v) → u < v) (f_below : (v u : ℕ) → v < size → In u (f v) → u < v) (P : ℕ → Type 0) (agree : (v : ℕ) → v < size → P v → e v ≡ f v) (on : (v u : ℕ) → v < size → P v → In u (e v) → P u) where
  alike' : (bound u v : ℕ) → v < bound → v < size → P v → reach e size u v ≡ reach f size u v
  alike' zero u v b l p = absurd (omega arith)
  alike' (suc bound) u v b l p =
      reach_is e size e_below u v l
      ∙ some_same (λ w. eqb w u || reach e size u w) (λ w. eqb w u || reach f size u w) (e v) (λ w m. let q = e_below v w l m in ap (λ z. eqb w u || z) (alike' bound u w (omega arith) (omega arith) (on v w l p m)))
      ∙ ap (some (λ w. eqb w u || reach f size u w)) (agree v l p)
      ∙ sym (reach_is f size f_below u v l)

  pub out_alike : (outs : List ℕ) → ((o : ℕ) → In o outs → (node_of o < size) × P (node_of o)) → (u : ℕ) → reach_out e size outs u ≡ reach_out f size outs u
  out_alike outs h u = some_same (λ o. eqb (node_of o) u || reach e size u (node_of o)) (λ o. eqb (node_of o) u || reach f size u (node_of o)) outs (λ o i. ap (λ z. eqb (node_of o) u || z) (alike' (suc (node_of o)) u (node_of o) (omega arith) (h o i).0 (h o i).1))

  keeps' : (bound u v : ℕ) → v < bound → P v → reach e size u v ≡ true → P u
  keeps' zero u v b p h = absurd (omega arith)
  keeps' (suc bound) u v b p h =
      let l = reach_range e size u v h in
      let r = reach_ways e size e_below u v h in
      let q = e_below v r.0 l r.1 in
      let k = on v r.0 l p r.1 in
      ⊎_elim (λ (x : r.0 ≡ u). subst P x k) (λ x. keeps' bound u r.0 (omega arith) k x) r.2

  -- and what is reached is where it holds
  pub out_keeps : (outs : List ℕ) → ((o : ℕ) → In o outs → P (node_of o)) → (u : ℕ) → reach_out e size outs u ≡ true → P u
  out_keeps outs h u r =
      let q = some_in (λ o. eqb (node_of o) u || reach e size u (node_of o)) outs r in
      let k = h q.0 q.1 in
      ⊎_elim (λ x. subst P (eqb-true (node_of q.0) u x) k) (λ x. keeps' (suc (node_of q.0)) u (node_of q.0) (omega arith) k x) (or_cases _ _ q.2)

module _ {A : Type 0} (F : Delay A) (L : Laws F) (nodes : List Node) (outs : List ℕ) (law : lawful (drawing nodes outs) ≡ true) (k : ℕ) (wide : 2 ≤ k) (sets : List (List ℕ)) (chosen : Chosen F nodes outs k (length nodes) sets) where
  -- at a node that the outputs depend on, the edges are those of the cut taken
  abbrev Reached : ℕ → Type 0
  Reached v = reach_out (λ w. fanins (at nodes w)) (length nodes) outs v ≡ true

  edges_agree : (v : ℕ) → v < length nodes → Reached v → edges_of F nodes k v ≡ edges_by nodes sets v
  edges_agree v l p =
      ⊎_elim
      (λ (g : is_gate (at nodes v) ≡ true). ap (λ z. cond (is_gate (at nodes v)) z []) (sym (chosen v l ∙ cond-true (needed nodes outs v) _ _ (and_from (is_gate (at nodes v)) _ g p))))
      (λ (g : is_gate (at nodes v) ≡ false). cond-false (is_gate (at nodes v)) (taken_cut F nodes k v) [] g ∙ sym (cond-false (is_gate (at nodes v)) (get_or sets v []) [] g))
      (cases_Bool (is_gate (at nodes v)))

  reached_on : (v u : ℕ) → v < length nodes → Reached v → In u (edges_of F nodes k v) → Reached u
  reached_on v u l p m =
      let d = (lawful_says nodes outs law).nodes_sound in
      ⊎_elim
      (λ (g : is_gate (at nodes v) ≡ true).
      let leaf = subst (λ z. In u z) (cond-true (is_gate (at nodes v)) (taken_cut F nodes k v) [] g) m in
      reached_down nodes outs u v d p (leaves_depend nodes d v (taken_cut F nodes k v) l (taken_listed F L nodes d k wide v l g).0 u (in_mem u _ leaf)))
      (λ (g : is_gate (at nodes v) ≡ false). absurd (subst (λ z. In u z) (cond-false (is_gate (at nodes v)) (taken_cut F nodes k v) [] g) m))
      (cases_Bool (is_gate (at nodes v)))

  -- the leaves of each cut stand below its gate
  pub chosen_under : (v : ℕ) → v < length nodes → below v (edges_by nodes sets v) ≡ true
  chosen_under v l =
      let d = (lawful_says nodes outs law).nodes_sound in
      let none : below v [] ≡ true = refl in
      ⊎_elim
      (λ (g : is_gate (at nodes v) ≡ true).
      let listed = (taken_listed F L nodes d k wide v l g).0 in
      subst (λ z. below v z ≡ true) (sym (cond-true (is_gate (at nodes v)) (get_or sets v []) [] g ∙ chosen v l))
      (⊎_elim
      (λ n. subst (λ z. below v z ≡ true) (sym (cond-true (needed nodes outs v) (taken_cut F nodes k v) [] n)) (says_below v _ listed.is_cut.under))
      (λ n. subst (λ z. below v z ≡ true) (sym (cond-false (needed nodes outs v) (taken_cut F nodes k v) [] n)) none)
      (cases_Bool (needed nodes outs v))))
      (λ (g : is_gate (at nodes v) ≡ false). subst (λ z. below v z ≡ true) (sym (cond-false (is_gate (at nodes v)) (get_or sets v []) [] g)) none)
      (cases_Bool (is_gate (at nodes v)))

  under_by : (v u : ℕ) → v < length nodes → In u (edges_by nodes sets v) → u < v
  under_by v u l i = ltb-true u v (every_in (λ x. ltb x v) u _ (chosen_under v l) i)

  output_reached : (o : ℕ) → In o outs → Reached (node_of o)
  output_reached o i = let d = (lawful_says nodes outs law).nodes_sound in out_direct (λ x. fanins (at nodes x)) (length nodes) (λ a u l j. fanins_below_lem nodes a u d l j) outs o i

  -- a gate is a cell if the outputs reach it by these cuts
  pub cells_marked : (marks : List Bool) → Marks (edges_by nodes sets) (length nodes) outs marks → (v : ℕ) → is_cell F nodes k outs v ≡ (is_gate (at nodes v) && get_or marks v false)
  cells_marked marks m v =
      let w = lawful_says nodes outs law in
      let d = w.nodes_sound in
      ap (λ z. is_gate (at nodes v) && z)
      (out_alike (edges_of F nodes k) (edges_by nodes sets) (length nodes) (edges_below_lem F L nodes d k wide) under_by Reached edges_agree reached_on outs (λ o i. (w.outputs_named o i, output_reached o i)) v
      ∙ sym (m v))

  -- a cell is a needed gate, so its cut is the one that it takes
  pub cell_cut : (v : ℕ) → is_cell F nodes k outs v ≡ true → get_or sets v [] ≡ taken_cut F nodes k v
  cell_cut v c =
      let d = (lawful_says nodes outs law).nodes_sound in
      let p = and_parts (is_gate (at nodes v)) (reach_out (edges_of F nodes k) (length nodes) outs v) c in
      let r = out_keeps (edges_of F nodes k) (edges_by nodes sets) (length nodes) (edges_below_lem F L nodes d k wide) under_by Reached edges_agree reached_on outs output_reached v p.1 in
      chosen v (gate_range nodes v p.0) ∙ cond-true (needed nodes outs v) _ _ (and_from (is_gate (at nodes v)) _ p.0 r)

-- The cuts taken are a cover, and its arrivals are the best.
use Rattle.std.proofs.Common.{◌≡◌, ℕ, ◌<◌, ◌≤◌, true, false, cond, List, [], ◌∷◌, length, get_or, take, sym, refl, ap, ◌∙◌, subst, ⊎_elim, arith}
use Rattle.std.proofs.lemmas.Bool.{and_parts, and_from, both_ways, cases_Bool}
use Rattle.drawing.specs.declared.node.Pair.{Pair}
use Rattle.drawing.specs.declared.node.Node.{Node}
use Rattle.drawing.specs.declared.node.Node.TheVariants.{Constant, Input, Gate}
use Rattle.drawing.specs.Sets.{union, In}
use Rattle.drawing.specs.Column.{column}
use Rattle.drawing.specs.Drawing.{at, node_of, fanins, is_gate, sound}
use Rattle.cuts.specs.Cuts.{least_cuts}
use Rattle.drawing.specs.Reach.{reach_out}
use Rattle.family.specs.Family.{Delay, Laws, cell_arrival}
use Rattle.choice.specs.Choice.{taken, best_step, best, taken_cut, edges_of, is_cell}
use Rattle.choice.specs.Rivals.{rival_step, arrivals, Rival, BestIsReached}
use Rattle.drawing.proofs.Members.{in_mem, mem_in}
use Rattle.drawing.proofs.SetLaws.{part_length, length_union}
use Rattle.drawing.proofs.ColumnLaws.{column_at, length_lower, column_same}
use Rattle.drawing.proofs.Sound.{gate_of, gate_range}
use Rattle.cuts.proofs.LeastCuts.{Cut, Least, says_cut, least_inside, in_list, list_in, single_choice}
use Rattle.drawing.proofs.ReachLaws.{out_direct, out_down}
use Rattle.choice.proofs.Taken.{taken_in}
use Rattle.cuts.proofs.Enumerate.{union_cut, f_below, g_below}

pub arrivals_plain : {A : Type 0} (F : Delay A) (nodes : List Node) (given : ℕ → List ℕ) (v : ℕ) → v < length nodes → is_gate (at nodes v) ≡ false → get_or (arrivals F nodes given) v F.start ≡ F.start
unfolding arrivals
arrivals_plain F nodes given v l h = go (at nodes v) refl
  where
    go : (n : Node) → at nodes v ≡ n → get_or (column (rival_step F given) nodes) v F.start ≡ F.start
    go Constant e = column_at (rival_step F given) nodes v F.start Constant l ∙ ap (rival_step F given _) e
    go Input e = column_at (rival_step F given) nodes v F.start Constant l ∙ ap (rival_step F given _) e
    go (Gate p) e = absurd (both_ways _ h (ap is_gate e))

-- every gate has a cut of at most two leaves, so its list has one for each width from 2
module _ (nodes : List Node) (d : sound nodes ≡ true) (v : ℕ) (l : v < length nodes) (g : is_gate (at nodes v) ≡ true) where
  two_cut : (s : List ℕ) × Cut nodes v s × (length s ≤ 2)
  two_cut = go (gate_of (at nodes v) g)
    where
      go : (p : Pair) × (at nodes v ≡ Gate p) → (s : List ℕ) × Cut nodes v s × (length s ≤ 2)
      go q =
          let f = node_of q.0.left in
          let h = node_of q.0.right in
          let is_fans : fanins (at nodes v) ≡ f ∷ h ∷ [] = rw q.1 refl in
          let a = single_choice nodes f d (omega (arith, f_below nodes d 2 v f h l is_fans)) in
          let b = single_choice nodes h d (omega (arith, g_below nodes d 2 v f h l is_fans)) in
          (union a.0 b.0, union_cut nodes d 2 v f h l is_fans a.0 b.0 a.1 b.1, omega (arith, length_union a.0 b.0, a.2, b.2))

  pub list_some : (k : ℕ) → 2 ≤ k → 0 < length (least_cuts nodes k v)
  list_some k h =
      let t = two_cut in
      let m = least_inside nodes v t.0 t.1 in
      let i = in_list nodes k v m.0 m.1 (omega (arith, part_length 0 0 m.0 t.0 m.1.is_cut.rising t.1.rising m.2, t.2)) in
      go (least_cuts nodes k v) i
    where
      go : (ss : List (List ℕ)) → In (least_inside nodes v two_cut.0 two_cut.1).0 ss → 0 < length ss
      go [] i = elim i [ ]
      go (x ∷ xs) i = omega arith

module _ {A : Type 0} (F : Delay A) (L : Laws F) (nodes : List Node) (d : sound nodes ≡ true) (k : ℕ) (wide : 2 ≤ k) where
  pub taken_listed : (v : ℕ) → v < length nodes → is_gate (at nodes v) ≡ true → Least nodes v (taken_cut F nodes k v) × (length (taken_cut F nodes k v) ≤ k)
  unfolding taken_cut
  taken_listed v l g = list_in nodes k v _ (taken_in F L (take v (best F nodes k)) (least_cuts nodes k v) (list_some nodes d v l g k wide))

  pub edges_below_lem : (v f : ℕ) → v < length nodes → In f (edges_of F nodes k v) → f < v
  edges_below_lem v f l m = ⊎_elim yes' no' (cases_Bool (is_gate (at nodes v)))
    where
      yes' : is_gate (at nodes v) ≡ true → f < v
      yes' g = (taken_listed v l g).0.is_cut.under f (in_mem f _ (subst (λ b. In f (cond b (taken_cut F nodes k v) [])) g m))

      no' : is_gate (at nodes v) ≡ false → f < v
      no' g = absurd (subst (λ b. In f (cond b (taken_cut F nodes k v) [])) g m)

  pub own_rival : (outs : List ℕ) → ((o : ℕ) → In o outs → node_of o < length nodes) → Rival nodes outs k (is_cell F nodes k outs) (taken_cut F nodes k)
  own_rival outs within = record {
    gates = λ v c. let g = (and_parts _ _ c).0 in (gate_range nodes v g, g);
    cuts = λ v c. let g = (and_parts _ _ c).0 in let t = taken_listed v (gate_range nodes v g) g in (says_cut nodes v (taken_cut F nodes k v) t.0.is_cut, t.1);
    outputs = λ o i g. and_from (is_gate (at nodes (node_of o))) _ g (out_direct (edges_of F nodes k) (length nodes) edges_below_lem outs o i);
    leaves = λ v u c m g.
        let p = and_parts (is_gate (at nodes v)) (reach_out (edges_of F nodes k) (length nodes) outs v) c in
        let e : In u (edges_of F nodes k v) = rw p.0 (mem_in u (taken_cut F nodes k v) m) in
        and_from (is_gate (at nodes u)) (reach_out (edges_of F nodes k) (length nodes) outs u) g (out_down (edges_of F nodes k) (length nodes) edges_below_lem outs v u (gate_range nodes v p.0) p.1 e);
  }

  pub own_arrivals : arrivals F nodes (taken_cut F nodes k) ≡ best F nodes k
  unfolding arrivals best taken_cut
  own_arrivals = sym (column_same (best_step F nodes k) (rival_step F (taken_cut F nodes k)) Constant nodes (λ v l. step v l (at nodes v)))
    where
      col : List A
      col = column (best_step F nodes k) nodes

      step : (v : ℕ) → v < length nodes → (n : Node) → best_step F nodes k (take v (column (best_step F nodes k) nodes)) n ≡ rival_step F (λ w. taken F (take w (column (best_step F nodes k) nodes)) (least_cuts nodes k w)) (take v (column (best_step F nodes k) nodes)) n
      step v l Constant = refl
      step v l Input = refl
      step v l (Gate p) =
          let e = length_lower (best_step F nodes k) nodes v (omega arith) in
          ap (λ w. cell_arrival F (take v col) (taken F (take w col) (least_cuts nodes k (length (take v col))))) (sym e)

pub best_is_reached : {A : Type 0} (F : Delay A) → Laws F → BestIsReached F
best_is_reached F L nodes outs k d w within = (own_rival F L nodes d k w outs within, own_arrivals F L nodes d k w)

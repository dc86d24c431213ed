-- No rival arrives earlier than the best.
use Rattle.std.proofs.Common.{◌≡◌, ℕ, zero, suc, ◌<◌, ◌≤◌, Bool, true, false, List, length, get_or, take, sym, refl, ap, ◌∙◌, ⊎_elim, arith}
use Rattle.std.proofs.lemmas.Bool.{or_parts, both_ways, cases_Bool, not-false}
use Rattle.std.proofs.lemmas.List.{get_or-take}
use Rattle.drawing.specs.declared.node.Node.{Node}
use Rattle.drawing.specs.declared.node.Node.TheVariants.{Constant, Input, Gate}
use Rattle.drawing.specs.Sets.{In}
use Rattle.drawing.specs.Column.{column}
use Rattle.drawing.specs.Drawing.{at, is_gate}
use Rattle.drawing.proofs.SetLaws.{says_sub, part_length}
use Rattle.drawing.proofs.ColumnLaws.{column_at, length_lower}
use Rattle.cuts.specs.Cuts.{least_cuts}
use Rattle.cuts.proofs.LeastCuts.{Cut, cut_says, least_inside, in_list}
use Rattle.family.specs.Family.{Delay, Laws, cell_arrival}
use Rattle.drawing.specs.Drawing.{most_leaves}
use Rattle.family.specs.Folds.{Earlier}
use Rattle.family.proofs.Latest.{cell_not_later}
use Rattle.choice.specs.Choice.{taken, best_step, best}
use Rattle.choice.proofs.Taken.{taken_good}
use Rattle.choice.specs.Rivals.{rival_step, arrivals, Rival, BestIsFirst}

module _ {A : Type 0} (F : Delay A) (L : Laws F) where
  -- the cut that is taken is not later than any of the list
  taken_first : (table : List A) (ts : List (List ℕ)) (t : List ℕ) → In t ts → F.not_later (cell_arrival F table (taken F table ts)) (cell_arrival F table t) ≡ true
  taken_first table ts t m = not-false _ (or_parts _ _ (taken_good F L table ts t m)).0

  module _ (nodes : List Node) (k : ℕ) where
    pub best_plain : (v : ℕ) → v < length nodes → is_gate (at nodes v) ≡ false → get_or (best F nodes k) v F.start ≡ F.start
    unfolding best
    best_plain v l h = go (at nodes v) refl
      where
        go : (n : Node) → at nodes v ≡ n → get_or (column (best_step F nodes k) nodes) v F.start ≡ F.start
        go Constant e = column_at (best_step F nodes k) nodes v F.start Constant l ∙ ap (best_step F nodes k _) e
        go Input e = column_at (best_step F nodes k) nodes v F.start Constant l ∙ ap (best_step F nodes k _) e
        go (Gate p) e = absurd (both_ways _ h (ap is_gate e))

    pub best_gate : (v : ℕ) → v < length nodes → is_gate (at nodes v) ≡ true → let lower = take v (best F nodes k) in get_or (best F nodes k) v F.start ≡ cell_arrival F lower (taken F lower (least_cuts nodes k v))
    unfolding best
    best_gate v l h = go (at nodes v) refl
      where
        lower : List A
        lower = take v (column (best_step F nodes k) nodes)

        go : (n : Node) → at nodes v ≡ n → get_or (column (best_step F nodes k) nodes) v F.start ≡ cell_arrival F (take v (column (best_step F nodes k) nodes)) (taken F (take v (column (best_step F nodes k) nodes)) (least_cuts nodes k v))
        go Constant e = absurd (both_ways false refl (sym (ap is_gate e) ∙ h))
        go Input e = absurd (both_ways false refl (sym (ap is_gate e) ∙ h))
        go (Gate p) e =
            column_at (best_step F nodes k) nodes v F.start Constant l
            ∙ ap (best_step F nodes k lower) e
            ∙ ap (λ n. cell_arrival F lower (taken F lower (least_cuts nodes k n))) (length_lower (best_step F nodes k) nodes v (omega arith))

    pub arrivals_gate : (given : ℕ → List ℕ) (v : ℕ) → v < length nodes → is_gate (at nodes v) ≡ true → get_or (arrivals F nodes given) v F.start ≡ cell_arrival F (take v (arrivals F nodes given)) (given v)
    unfolding arrivals
    arrivals_gate given v l h = go (at nodes v) refl
      where
        lower : List A
        lower = take v (column (rival_step F given) nodes)

        go : (n : Node) → at nodes v ≡ n → get_or (column (rival_step F given) nodes) v F.start ≡ cell_arrival F (take v (column (rival_step F given) nodes)) (given v)
        go Constant e = absurd (both_ways false refl (sym (ap is_gate e) ∙ h))
        go Input e = absurd (both_ways false refl (sym (ap is_gate e) ∙ h))
        go (Gate p) e =
            column_at (rival_step F given) nodes v F.start Constant l
            ∙ ap (rival_step F given lower) e
            ∙ ap (λ n. cell_arrival F lower (given n)) (length_lower (rival_step F given) nodes v (omega arith))

    -- no cut of a gate with at most k leaves is earlier, by the best arrivals below
    pub best_by_cut : k ≤ most_leaves → (v : ℕ) (s : List ℕ) → v < length nodes → is_gate (at nodes v) ≡ true → Cut nodes v s → length s ≤ k → F.not_later (get_or (best F nodes k) v F.start) (cell_arrival F (take v (best F nodes k)) s) ≡ true
    best_by_cut few v s l g c short =
        let m = least_inside nodes v s c in
        let shorter = part_length 0 0 m.0 s m.1.is_cut.rising c.rising m.2 in
        let listed = in_list nodes k v m.0 m.1 (omega arith) in
        let lower = take v (best F nodes k) in
        rw (best_gate v l g)
        (L.trans _ _ _ (taken_first lower (least_cuts nodes k v) m.0 listed) (cell_not_later F L lower lower m.0 s shorter (omega arith) (says_sub m.0 s m.2) (λ u i. ⊎_elim (λ h. h) (λ h. h) (L.total _ _))))

    module _ (chosen : ℕ → Bool) (given : ℕ → List ℕ) (outs : List ℕ) (few : k ≤ most_leaves) (R : Rival nodes outs k chosen given) where
      earliest' : (bound v : ℕ) → v < bound → chosen v ≡ true → F.not_later (get_or (best F nodes k) v F.start) (get_or (arrivals F nodes given) v F.start) ≡ true
      earliest' zero v l c = absurd (omega arith)
      earliest' (suc bound) v l c =
          let g = R.gates v c in
          let q = R.cuts v c in
          let cut_v = cut_says nodes v (given v) q.0 in
          let low_b = take v (best F nodes k) in
          let low_r = take v (arrivals F nodes given) in
          let leaf : Earlier F low_b low_r (given v) = λ u i.
          let below = cut_v.under u i in
          let x : F.not_later (get_or (best F nodes k) u F.start) (get_or (arrivals F nodes given) u F.start) ≡ true =
          ⊎_elim (λ h. earliest' bound u (omega arith) (R.leaves v u c i h)) (λ h. rw (best_plain u (omega (arith, g.0)) h) (L.first _)) (cases_Bool (is_gate (at nodes u))) in
          rw (get_or-take v (best F nodes k) u F.start below, get_or-take v (arrivals F nodes given) u F.start below) x in
          L.trans _ _ _ (best_by_cut few v (given v) g.0 g.1 cut_v q.1)
          (rw (arrivals_gate given v g.0 g.1) (cell_not_later F L low_b low_r (given v) (given v) (omega arith) (omega (arith, q.1)) (says_sub (given v) (given v) (λ u i. i)) leaf))

      pub earliest : (v : ℕ) → chosen v ≡ true → F.not_later (get_or (best F nodes k) v F.start) (get_or (arrivals F nodes given) v F.start) ≡ true
      earliest v c = earliest' (suc v) v (omega arith) c

pub best_is_first : {A : Type 0} (F : Delay A) → Laws F → BestIsFirst F
best_is_first F L nodes outs k chosen given few R v c = earliest F L nodes k chosen given outs few R v c

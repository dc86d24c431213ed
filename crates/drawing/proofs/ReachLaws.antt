-- What is reached downwards: the law of `reach`, and what `depends` and the outputs have of it.
use Rattle.std.proofs.Common.{◌≡◌, ℕ, zero, suc, ◌<◌, true, false, ◌||◌, eqb, ◌⊎◌, List, length, get_or, take, sym, refl, ap, ◌∙◌, inl, inr, ⊎_elim, zero-add, arith}
use Rattle.std.specs.List.{range_with_len}
use Rattle.std.proofs.lemmas.List.FromFn.{length-range_with_len, get_or-range_with_len}
use Rattle.std.proofs.lemmas.Bool.{or_cases, or_left, or_right, eqb-true, eq-eqb, both_ways, cases_lt}
use Rattle.std.proofs.lemmas.List.{get_or-take, get_or_past}
use Rattle.drawing.specs.declared.node.Node.{Node}
use Rattle.drawing.specs.Sets.{some, In}
use Rattle.drawing.specs.Column.{column}
use Rattle.drawing.specs.Drawing.{at, node_of, fanins, sound}
use Rattle.drawing.specs.Reach.{reaching, reach, reach_out, depends}
use Rattle.drawing.proofs.Members.{some_in, in_some, some_same}
use Rattle.drawing.proofs.ColumnLaws.{column_at, length_column}
use Rattle.drawing.proofs.Sound.{fanins_below_lem}

module _ (edges : ℕ → List ℕ) (size : ℕ) where
  pub reach_range : (u v : ℕ) → reach edges size u v ≡ true → v < size
  unfolding reach
  reach_range u v h =
      ⊎_elim (λ l. l) (λ l. absurd (both_ways _ (get_or_past (column (reaching edges u) (range_with_len 0 size)) v false (omega (arith, length_column (reaching edges u) (range_with_len 0 size), length-range_with_len 0 size))) h)) (cases_lt v size)

  module _ (below : (v f : ℕ) → v < size → In f (edges v) → f < v) where
    pub reach_is : (u v : ℕ) → v < size → reach edges size u v ≡ some (λ f. eqb f u || reach edges size u f) (edges v)
    unfolding reach
    reach_is u v l =
        let col = column (reaching edges u) (range_with_len 0 size) in
        column_at (reaching edges u) (range_with_len 0 size) v false 0 (omega (arith, length-range_with_len 0 size))
        ∙ ap (reaching edges u (take v col)) (get_or-range_with_len 0 size v 0 l ∙ zero-add v)
        ∙ some_same (λ f. eqb f u || get_or (take v col) f false) (λ f. eqb f u || get_or col f false) (edges v) (λ f m. ap (λ b. eqb f u || b) (get_or-take v col f false (below v f l m)))

    pub reach_direct : (v f : ℕ) → v < size → In f (edges v) → reach edges size f v ≡ true
    reach_direct v f l m = reach_is f v l ∙ in_some (λ g. eqb g f || reach edges size f g) f (edges v) m (or_left _ _ (eq-eqb f f refl))

    pub reach_through : (u v f : ℕ) → v < size → In f (edges v) → reach edges size u f ≡ true → reach edges size u v ≡ true
    reach_through u v f l m h = reach_is u v l ∙ in_some (λ g. eqb g u || reach edges size u g) f (edges v) m (or_right _ _ h)

    pub reach_ways : (u v : ℕ) → reach edges size u v ≡ true → (f : ℕ) × In f (edges v) × ((f ≡ u) ⊎ (reach edges size u f ≡ true))
    reach_ways u v h =
        let r = some_in (λ g. eqb g u || reach edges size u g) (edges v) (sym (reach_is u v (reach_range u v h)) ∙ h) in
        (r.0, r.1, ⊎_elim (λ e. inl (eqb-true _ _ e)) (λ e. inr e) (or_cases _ _ r.2))

    down' : (bound v n f : ℕ) → v < bound → n < size → reach edges size n v ≡ true → In f (edges n) → reach edges size f v ≡ true
    down' zero v n f l r h m = absurd (omega arith)
    down' (suc bound) v n f l r h m =
        let lv = reach_range n v h in
        let w = reach_ways n v h in
        let g = w.0 in
        let b = below v g lv w.1 in
        reach_through f v g lv w.1
        (⊎_elim (λ (e : g ≡ n). rw e (reach_direct n f r m)) (λ e. down' bound g n f (omega arith) r e m) w.2)

    -- what is reached goes on downwards
    pub reach_down : (v n f : ℕ) → n < size → reach edges size n v ≡ true → In f (edges n) → reach edges size f v ≡ true
    reach_down v n f r h m = down' (suc v) v n f (omega arith) r h m

    trans' : (bound u v w : ℕ) → w < bound → reach edges size u v ≡ true → reach edges size v w ≡ true → reach edges size u w ≡ true
    trans' zero u v w l h k = absurd (omega arith)
    trans' (suc bound) u v w l h k =
        let lw = reach_range v w k in
        let q = reach_ways v w k in
        let b = below w q.0 lw q.1 in
        reach_through u w q.0 lw q.1 (⊎_elim (λ (e : q.0 ≡ v). rw e h) (λ e. trans' bound u v q.0 (omega arith) h e) q.2)

    pub reach_trans : (u v w : ℕ) → reach edges size u v ≡ true → reach edges size v w ≡ true → reach edges size u w ≡ true
    reach_trans u v w h k = trans' (suc w) u v w (omega arith) h k

    -- from the outputs
    pub out_direct : (outs : List ℕ) (o : ℕ) → In o outs → reach_out edges size outs (node_of o) ≡ true
    out_direct outs o i = in_some (λ p. eqb (node_of p) (node_of o) || reach edges size (node_of o) (node_of p)) o outs i (or_left (eqb (node_of o) (node_of o)) (reach edges size (node_of o) (node_of o)) (eq-eqb (node_of o) (node_of o) refl))

    pub out_down : (outs : List ℕ) (n f : ℕ) → n < size → reach_out edges size outs n ≡ true → In f (edges n) → reach_out edges size outs f ≡ true
    out_down outs n f l h m =
        let r = some_in (λ o. eqb (node_of o) n || reach edges size n (node_of o)) outs h in
        in_some (λ o. eqb (node_of o) f || reach edges size f (node_of o)) r.0 outs r.1
        (or_right (eqb (node_of r.0) f) (reach edges size f (node_of r.0)) (⊎_elim (λ e. rw (eqb-true (node_of r.0) n e) (reach_direct n f l m)) (λ e. reach_down (node_of r.0) n f l e m) (or_cases _ _ r.2)))

module _ (nodes : List Node) (d : sound nodes ≡ true) where
  abbrev ties : ℕ → List ℕ
  ties w = fanins (at nodes w)

  fanins_below : (v f : ℕ) → v < length nodes → In f (ties v) → f < v
  fanins_below v f l m = fanins_below_lem nodes v f d l m

  pub depends_direct : (v f : ℕ) → v < length nodes → In f (fanins (at nodes v)) → depends nodes f v ≡ true
  depends_direct v f l m = reach_direct ties (length nodes) fanins_below v f l m

  pub depends_through : (u v f : ℕ) → v < length nodes → In f (fanins (at nodes v)) → depends nodes u f ≡ true → depends nodes u v ≡ true
  depends_through u v f l m h = reach_through ties (length nodes) fanins_below u v f l m h

  pub depends_down : (v n f : ℕ) → n < length nodes → depends nodes n v ≡ true → In f (fanins (at nodes n)) → depends nodes f v ≡ true
  depends_down v n f l h m = reach_down ties (length nodes) fanins_below v n f l h m

-- The needed gates alone: their leaves are needed, so the table of the needed gates serves as well as the whole one.
use Rattle.std.proofs.Common.{◌≡◌, ℕ, ◌<◌, true, false, cond, not, ◌&&◌, ◌||◌, eqb, List, [], ◌∷◌, length, get_or, take, sym, refl, ap, ◌∙◌, ap₂, inl, inr, ⊎_elim, arith}
use Rattle.std.proofs.lemmas.Bool.{and_parts, and_from, or_cases, or_right, eqb-true, cases_Bool, cond-false, cond_both, not_from_true, and_right, and_left}
use Rattle.std.proofs.lemmas.List.{get_or-take}
use Rattle.drawing.specs.declared.node.Node.{Node}
use Rattle.drawing.specs.Sets.{mem, In}
use Rattle.drawing.specs.Drawing.{at, node_of, fanins, is_gate, sound}
use Rattle.cuts.specs.Cuts.{least_cuts}
use Rattle.drawing.specs.Reach.{depends, reach, reach_out, needed}
use Rattle.family.specs.Family.{Delay, Laws, latest, cell_arrival}
use Rattle.choice.specs.Choice.{smaller, rather, taken_from, taken, best, taken_cut}
use Rattle.choice.specs.Rivals.{OutputsFirst, NeededSuffice}
use Rattle.drawing.proofs.Members.{in_mem, elem_in, in_elem, some_in, in_some, map_same}
use Rattle.drawing.proofs.Sound.{fanins_below_lem, gate_range}
use Rattle.cuts.proofs.LeastCuts.{list_in}
use Rattle.cuts.proofs.Leaves.{leaves_depend}
use Rattle.drawing.proofs.ReachLaws.{reach_trans}
use Rattle.choice.proofs.Taken.{taken_in, taken_same}
use Rattle.choice.proofs.Optimal.{best_plain, best_gate, best_is_first}
use Rattle.choice.proofs.OwnCover.{own_arrivals, list_some}

some_length : {X : Type 0} (a : X) (xs : List X) → In a xs → 0 < length xs
some_length a [] m = elim m [ ]
some_length a (x ∷ xs) m = omega arith

module _ {A : Type 0} (F : Delay A) where
  -- tables that agree on the leaves
  pub through_same : (a b : List A) (s : List ℕ) → ((u : ℕ) → mem u s ≡ true → get_or a u F.start ≡ get_or b u F.start) → cell_arrival F a s ≡ cell_arrival F b s
  through_same a b s h = ap (λ z. F.result (latest F z) (length s)) (map_same _ _ s (λ u m. h u (in_mem u s m)))

  rather_same : (a b : List A) (s t : List ℕ) → cell_arrival F a s ≡ cell_arrival F b s → cell_arrival F a t ≡ cell_arrival F b t → rather F a t s ≡ rather F b t s
  rather_same a b s t h k =
      ap₂ (λ x y. not (F.not_later x y) || (F.not_later y x && smaller t s)) h k

  taken_from_alike : (a b : List A) (s : List ℕ) (ts : List (List ℕ)) → cell_arrival F a s ≡ cell_arrival F b s → ((t : List ℕ) → In t ts → cell_arrival F a t ≡ cell_arrival F b t) → taken_from F a s ts ≡ taken_from F b s ts
  taken_from_alike a b s [] h k = refl
  taken_from_alike a b s (t ∷ ts) h k =
      let e = rather_same a b s t h (k t (inl refl)) in
      let w = cond (rather F a t s) t s in
      taken_from_alike a b w ts (cond_both (rather F a t s) t s (λ z. cell_arrival F a z ≡ cell_arrival F b z) (λ _. k t (inl refl)) (λ _. h)) (λ u m. k u (inr m))
      ∙ ap (λ c. taken_from F b (cond c t s) ts) e

  pub taken_alike : (a b : List A) (ts : List (List ℕ)) → ((t : List ℕ) → In t ts → cell_arrival F a t ≡ cell_arrival F b t) → taken F a ts ≡ taken F b ts
  taken_alike a b [] h = refl
  taken_alike a b (t ∷ ts) h = taken_from_alike a b t ts (h t (inl refl)) (λ u m. h u (inr m))

-- what a node that the outputs reach depends on, they reach
pub reached_down : (nodes : List Node) (outs : List ℕ) (u v : ℕ) → sound nodes ≡ true → reach_out (λ w. fanins (at nodes w)) (length nodes) outs v ≡ true → depends nodes u v ≡ true → reach_out (λ w. fanins (at nodes w)) (length nodes) outs u ≡ true
reached_down nodes outs u v d n h =
    let ties = λ (w : ℕ). fanins (at nodes w) in
    let r = some_in (λ o. eqb (node_of o) v || reach ties (length nodes) v (node_of o)) outs n in
    let o = r.0 in
    in_some (λ o. eqb (node_of o) u || reach ties (length nodes) u (node_of o)) o outs r.1
    (or_right (eqb (node_of o) u) (reach ties (length nodes) u (node_of o))
    (⊎_elim (λ e. rw (eqb-true (node_of o) v e) h) (λ e. reach_trans ties (length nodes) (λ w f l m. fanins_below_lem nodes w f d l m) u v (node_of o) h e) (or_cases _ _ r.2)))

-- what a needed gate depends on is needed, if it is a gate
needed_down : (nodes : List Node) (outs : List ℕ) (u v : ℕ) → sound nodes ≡ true → needed nodes outs v ≡ true → depends nodes u v ≡ true → is_gate (at nodes u) ≡ true → needed nodes outs u ≡ true
needed_down nodes outs u v d n h g = and_from (is_gate (at nodes u)) _ g (reached_down nodes outs u v d (and_parts (is_gate (at nodes v)) _ n).1 h)

module _ {A : Type 0} (F : Delay A) (L : Laws F) where
  pub needed_suffice : NeededSuffice F
  unfolding taken_cut
  needed_suffice nodes outs k v table list d wide within n tab same_list =
      (same, through_same F table lower _ (λ u m. agree u (member_below u m) (member_needed u m)) ∙ ap (cell_arrival F lower) same ∙ sym (best_gate F L nodes k v range gate))
    where
      gate : is_gate (at nodes v) ≡ true
      gate = (and_parts _ _ n).0

      range : v < length nodes
      range = gate_range nodes v gate

      lower : List A
      lower = take v (best F nodes k)

      there : (s : List ℕ) → In s list → In s (least_cuts nodes k v)
      there s m = elem_in s (least_cuts nodes k v) (sym (same_list s) ∙ in_elem s list m)

      back : (s : List ℕ) → In s (least_cuts nodes k v) → In s list
      back s m = elem_in s list (same_list s ∙ in_elem s (least_cuts nodes k v) m)

      agree : (u : ℕ) → u < v → (is_gate (at nodes u) ≡ true → needed nodes outs u ≡ true) → get_or table u F.start ≡ get_or lower u F.start
      agree u l h =
          let off : (is_gate (at nodes u) && not (needed nodes outs u)) ≡ false =
          ⊎_elim (λ g. and_right _ _ (not_from_true _ (h g))) (λ g. and_left _ _ g) (cases_Bool (is_gate (at nodes u))) in
          tab u l ∙ cond-false _ _ _ off ∙ sym (get_or-take v (best F nodes k) u F.start l)

      leaf : (s : List ℕ) → In s (least_cuts nodes k v) → (u : ℕ) → mem u s ≡ true → (u < v) × (is_gate (at nodes u) ≡ true → needed nodes outs u ≡ true)
      leaf s m u i =
          let least = (list_in nodes k v s m).0 in
          (least.is_cut.under u i, λ g. needed_down nodes outs u v d n (leaves_depend nodes d v s range least u i) g)

      alike : (s : List ℕ) → In s list → cell_arrival F table s ≡ cell_arrival F lower s
      alike s m = through_same F table lower s (λ u i. let q = leaf s (there s m) u i in agree u q.0 q.1)

      some_one : 0 < length list
      some_one = some_length (taken F lower (least_cuts nodes k v)) list (back _ (taken_in F L lower (least_cuts nodes k v) (list_some nodes d v range gate k wide)))

      same : taken F table list ≡ taken F lower (least_cuts nodes k v)
      same = taken_alike F table lower list alike ∙ taken_same F L lower list (least_cuts nodes k v) some_one (list_some nodes d v range gate k wide) there back

      member_below : (u : ℕ) → mem u (taken F table list) ≡ true → u < v
      member_below u m = (leaf _ (there _ (taken_in F L table list some_one)) u m).0

      member_needed : (u : ℕ) → mem u (taken F table list) ≡ true → is_gate (at nodes u) ≡ true → needed nodes outs u ≡ true
      member_needed u m = (leaf _ (there _ (taken_in F L table list some_one)) u m).1

  pub outputs_first : OutputsFirst F
  outputs_first nodes outs k chosen given d wide few within R o i =
      rw (own_arrivals F L nodes d k wide)
      (⊎_elim
      (λ g. best_is_first F L nodes outs k chosen given few R (node_of o) (R.outputs o i g))
      (λ g. rw (best_plain F L nodes k (node_of o) (within o i) g) (L.first _))
      (cases_Bool (is_gate (at nodes (node_of o)))))

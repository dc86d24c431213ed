-- The pass that marks what the outputs reach: from the highest node downwards, each marked node marks what its edges lead to.
use Rattle.std.proofs.Common.{◌≡◌, ℕ, zero, suc, ◌-◌, ◌<◌, ◌≤◌, Bool, true, false, ◌||◌, eqb, ltb, ◌≢◌, ◌⊎◌, List, [], ◌∷◌, map, length, get_or, set, sym, refl, ap, ◌∙◌, subst, inl, inr, ⊎_elim, arith}
use Rattle.std.proofs.lemmas.Bool.{and_parts, or_cases, or_left, or_right, both_ways, eqb-true, eq-eqb, ne_eqb, cases_eq, ltb-true, lt-ltb}
use Rattle.std.proofs.lemmas.Bool.Decides.{same_from_decides}
use Rattle.std.proofs.lemmas.List.{get_or-set_same, get_or-set_other, length-set}
use Rattle.drawing.specs.Sets.{mem, below, In}
use Rattle.drawing.specs.declared.node.Node.{Node}
use Rattle.drawing.specs.Drawing.{drawing, at, node_of, fanins, lawful}
use Rattle.drawing.specs.Reach.{reach, reach_out}
use Rattle.drawing.proofs.Scans.{every_map}
use Rattle.drawing.proofs.Members.{every_at, in_every, mem_in, in_mem, map_in, in_map, some_in, every_in}
use Rattle.drawing.proofs.SetLaws.{below_more}
use Rattle.drawing.proofs.ReachLaws.{reach_ways, reach_range, out_direct, out_down}
use Rattle.drawing.proofs.Sound.{sound_at_lem}
use Rattle.drawing.proofs.Lawful.{lawful_says}
use Rattle.choice.specs.Marks.{mark_all, Marks}

pub length_marks : (marks : List Bool) (us : List ℕ) → length (mark_all marks us) ≡ length marks
length_marks marks [] = refl
length_marks marks (u ∷ us) = length_marks (set marks u true) us ∙ length-set marks u true

or_none : (b : Bool) → b ≡ (b || false)
or_none true = refl
or_none false = refl

or_middle : (a b : Bool) → true ≡ (a || (true || b))
or_middle true b = refl
or_middle false b = refl

-- a node is marked if it was, or is one of those
pub marks_at : (marks : List Bool) (us : List ℕ) (u : ℕ) → below (length marks) us ≡ true → get_or (mark_all marks us) u false ≡ (get_or marks u false || mem u us)
marks_at marks [] u b = or_none (get_or marks u false)
marks_at marks (x ∷ xs) u b =
    let p = and_parts (ltb x (length marks)) (below (length marks) xs) b in
    let rest = marks_at (set marks x true) xs u (rw (length-set marks x true) p.1) in
    ⊎_elim
    (λ (e : u ≡ x). rest ∙ ap (λ z. z || mem u xs) (ap (λ z. get_or (set marks x true) z false) e ∙ get_or-set_same marks x true false (ltb-true x _ p.0)) ∙ or_middle (get_or marks u false) (mem u xs) ∙ ap (λ z. get_or marks u false || (z || mem u xs)) (sym (eq-eqb u x e)))
    (λ (e : u ≢ x). rest ∙ ap (λ z. z || mem u xs) (get_or-set_other marks x u true false e) ∙ ap (λ z. get_or marks u false || (z || mem u xs)) (sym (ne_eqb u x e)))
    (cases_eq u x)

-- what the marks say then
marked_cases : (marks : List Bool) (us : List ℕ) (u : ℕ) → below (length marks) us ≡ true → get_or (mark_all marks us) u false ≡ true → (get_or marks u false ≡ true) ⊎ In u us
marked_cases marks us u b h = ⊎_elim (λ e. inl e) (λ e. inr (mem_in u us e)) (or_cases _ _ (sym (marks_at marks us u b) ∙ h))

marked_before : (marks : List Bool) (us : List ℕ) (u : ℕ) → below (length marks) us ≡ true → get_or marks u false ≡ true → get_or (mark_all marks us) u false ≡ true
marked_before marks us u b h = marks_at marks us u b ∙ or_left _ (mem u us) h

marked_now : (marks : List Bool) (us : List ℕ) (u : ℕ) → below (length marks) us ≡ true → In u us → get_or (mark_all marks us) u false ≡ true
marked_now marks us u b i = marks_at marks us u b ∙ or_right (get_or marks u false) _ (in_mem u us i)

module _ (edges : ℕ → List ℕ) (size : ℕ) (outs : List ℕ) where
  -- the marks, when each node from v on has been looked at
  pub record Marking (v : ℕ) (marks : List Bool) : Type 0 where
    pub room : size ≤ length marks
    pub only : (u : ℕ) → get_or marks u false ≡ true → reach_out edges size outs u ≡ true
    pub named : (o : ℕ) → In o outs → get_or marks (node_of o) false ≡ true
    pub closed : (w f : ℕ) → v ≤ w → get_or marks w false ≡ true → In f (edges w) → get_or marks f false ≡ true

  module _ (under : (v : ℕ) → v < size → below v (edges v) ≡ true) where
    edges_below : (v f : ℕ) → v < size → In f (edges v) → f < v
    edges_below v f l m = ltb-true f v (every_in (λ u. ltb u v) f (edges v) (under v l) m)

    pub marking_start : (none marks : List Bool) → ((u : ℕ) → get_or none u false ≡ false) → below size (map node_of outs) ≡ true → size ≤ length none → marks ≡ mark_all none (map node_of outs) → Marking size marks
    marking_start none marks bare within room new =
        let named = map node_of outs in
        let b = below_more size (length none) named room within in
        let from : (u : ℕ) → get_or (mark_all none named) u false ≡ true → In u named = λ u h. ⊎_elim (λ e. absurd (both_ways _ (bare u) e)) (λ i. i) (marked_cases none named u b h) in
        subst (Marking size) (sym new) record {
          room = omega (arith, length_marks none named);
          only = λ u h. let r = map_in node_of u outs (from u h) in rw (← r.2) (out_direct edges size edges_below outs r.0 r.1);
          named = λ o i. marked_now none named (node_of o) b (in_map node_of o outs i);
          closed = λ w f l h m. let k = ltb-true w size (every_in (λ u. ltb u size) w named within (from w h)) in absurd (omega arith);
        }

    -- the node below v is not marked
    pub marking_skip : (v : ℕ) (marks : List Bool) → 0 < v → Marking v marks → get_or marks (v - 1) false ≡ false → Marking (v - 1) marks
    marking_skip v marks p m h = record {
      room = m.room;
      only = m.only;
      named = m.named;
      closed = λ w f l k i. ⊎_elim (λ (e : w ≡ v - 1). absurd (both_ways _ h (rw (← e) k))) (λ (e : w ≢ v - 1). m.closed w f (omega arith) k i) (cases_eq w (v - 1));
    }

    -- the edges of the node below v lead to nodes that have a mark
    pub edges_within : (v : ℕ) (marks : List Bool) → 0 < v → v ≤ size → Marking v marks → below (length marks) (edges (v - 1)) ≡ true
    edges_within v marks p l m = below_more (v - 1) (length marks) (edges (v - 1)) (omega (arith, m.room)) (under (v - 1) (omega arith))

    -- the node below v is marked, and marks what its edges lead to
    pub marking_step : (v : ℕ) (marks new : List Bool) → 0 < v → v ≤ size → Marking v marks → get_or marks (v - 1) false ≡ true → new ≡ mark_all marks (edges (v - 1)) → Marking (v - 1) new
    marking_step v marks new p l m h n =
        let u = v - 1 in
        let b = edges_within v marks p l m in
        subst (Marking u) (sym n) record {
          room = omega (arith, m.room, length_marks marks (edges u));
          only = λ x k. ⊎_elim (λ e. m.only x e) (λ i. out_down edges size edges_below outs u x (omega arith) (m.only u h) i) (marked_cases marks (edges u) x b k);
          named = λ o i. marked_before marks (edges u) (node_of o) b (m.named o i);
          closed = λ w f g k i. ⊎_elim
              (λ (e : w ≡ u). marked_now marks (edges u) f b (rw e at i))
              (λ (e : w ≢ u). ⊎_elim (λ x. marked_before marks (edges u) f b (m.closed w f (omega arith) x i)) (λ x. let y = edges_below u w (omega arith) x in absurd (omega arith)) (marked_cases marks (edges u) w b k))
              (cases_eq w u);
        }

    down' : (marks : List Bool) → Marking 0 marks → (bound w u : ℕ) → w < bound → get_or marks w false ≡ true → reach edges size u w ≡ true → get_or marks u false ≡ true
    down' marks m zero w u l h r = absurd (omega arith)
    down' marks m (suc bound) w u l h r =
        let q = reach_ways edges size edges_below u w r in
        let k = m.closed w q.0 (omega arith) h q.1 in
        let b = edges_below w q.0 (reach_range edges size u w r) q.1 in
        ⊎_elim (λ (e : q.0 ≡ u). rw (← e) k) (λ e. down' marks m bound q.0 u (omega arith) k e) q.2

    pub marking_done : (marks : List Bool) → Marking 0 marks → Marks edges size outs marks
    marking_done marks m v = same_from_decides {P = reach_out edges size outs v ≡ true} _ _ (m.only v, back) ((λ h. h), (λ h. h))
      where
        back : reach_out edges size outs v ≡ true → get_or marks v false ≡ true
        back h =
            let r = some_in (λ o. eqb (node_of o) v || reach edges size v (node_of o)) outs h in
            let k = m.named r.0 r.1 in
            ⊎_elim (λ e. let f = eqb-true (node_of r.0) v e in rw (← f) k) (λ e. down' marks m (suc (node_of r.0)) (node_of r.0) v (omega arith) k e) (or_cases _ _ r.2)

-- each node that is named is below n if all are
pub named_below : {X : Type 0} (node : X → ℕ) (n : ℕ) (names : List X) (i : ℕ) (x : X) → below n (map node names) ≡ true → i < length names → x ≡ get_or names i x → node x < n
named_below node n names i x b l e = ltb-true (node x) n (ap (λ z. ltb (node z) n) e ∙ every_at (λ z. ltb (node z) n) names i x (sym (every_map (λ u. ltb u n) node names) ∙ b) l)

-- in a lawful drawing the fanins stand below, and the outputs name nodes
module _ (nodes : List Node) (outs : List ℕ) (law : lawful (drawing nodes outs) ≡ true) where
  pub fanins_under : (v : ℕ) → v < length nodes → below v (fanins (at nodes v)) ≡ true
  fanins_under v l = (and_parts _ _ (sound_at_lem nodes v (lawful_says nodes outs law).nodes_sound l)).1

  pub outputs_within : (n : ℕ) → length nodes ≤ n → below n (map node_of outs) ≡ true
  outputs_within n l = every_map (λ u. ltb u n) node_of outs ∙ in_every (λ o. ltb (node_of o) n) outs (λ o i. lt-ltb _ n (omega (arith, (lawful_says nodes outs law).outputs_named o i)))

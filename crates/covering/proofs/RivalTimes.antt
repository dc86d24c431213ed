-- The arrivals of a rival's cells, one behind the other, are those of the rival.
use Rattle.std.proofs.Common.{◌≡◌, ℕ, zero, suc, ◌+◌, ◌<◌, ◌≤◌, Bool, true, false, cond, ◌&&◌, eqb, ltb, ◌≢◌, List, [], ◌∷◌, ◌++◌, map, length, get_or, take, sym, refl, ap, ◌∙◌, subst, ⊎_elim, add-one, arith}
use Rattle.std.proofs.lemmas.List.{get_or-take}
use Rattle.std.proofs.lemmas.Bool.{and_from, and_left, and_right, eq-eqb, ne_eqb, lt-ltb, le-ltb, cases_Bool, cases_eq, cases_lt, cond-true, cond-false, cond_both}
use Rattle.drawing.specs.declared.node.Node.{Node}
use Rattle.drawing.specs.Drawing.{drawing, at, is_gate}
use Rattle.drawing.proofs.Members.{in_mem, map_same}
use Rattle.cuts.proofs.LeastCuts.{cut_says}
use Rattle.family.specs.Family.{Delay, Laws, latest}
use Rattle.choice.specs.Rivals.{arrivals, Rival}
use Rattle.choice.proofs.Optimal.{arrivals_gate}
use Rattle.choice.proofs.OwnCover.{arrivals_plain}
use Rattle.cells.specs.declared.cell.Cell.{Cell}
use Rattle.cells.specs.Netlist.{cell_of}
use Rattle.cells.proofs.Tables.{leaves_of_cell}
use Rattle.covering.specs.Chosen.{cover_up_to, cover_by}
use Rattle.covering.specs.Times.{time_at, cell_time, times_after, cover_arrival}
use Rattle.covering.proofs.RivalCover.{upto_more, upto_skip}

same_below : (u v : ℕ) → u ≢ v → ltb u (v + 1) ≡ ltb u v
same_below u v n =
    ⊎_elim (λ (l : u < v). lt-ltb u (v + 1) (omega arith) ∙ sym (lt-ltb u v l)) (λ (l : v ≤ u). le-ltb u (v + 1) (omega arith) ∙ sym (le-ltb u v l)) (cases_lt u v)

module _ {A : Type 0} (F : Delay A) where
  times_push : (times : List (ℕ × A)) (cs : List Cell) (c : Cell) → times_after F times (cs ++ c ∷ []) ≡ (c.root, cell_time F (times_after F times cs) c) ∷ times_after F times cs
  times_push times [] c = refl
  times_push times (b ∷ cs) c = times_push ((b.root, cell_time F times b) ∷ times) cs c

module _ {A : Type 0} (F : Delay A) (L : Laws F) (nodes : List Node) (outs : List ℕ) (k : ℕ) (picked : ℕ → Bool) (given : ℕ → List ℕ) (R : Rival nodes outs k picked given) where
  -- the rival's arrival of a node
  abbrev time : ℕ → A
  time u = get_or (arrivals F nodes given) u F.start

  -- the roots below v with their arrivals
  abbrev times : ℕ → List (ℕ × A)
  times v = times_after F [] (cover_up_to nodes picked given v).cells

  -- what the cover has for a node: its arrival if it is a gate picked below v
  abbrev held : ℕ → ℕ → A
  held v u = cond (ltb u v && picked u) (time u) F.start

  -- that is the arrival of a node that is picked if it is a gate
  held_right : (v u : ℕ) → u < v → u < length nodes → (is_gate (at nodes u) ≡ true → picked u ≡ true) → held v u ≡ time u
  held_right v u l r h =
      ⊎_elim
      (λ g. cond-true (ltb u v && picked u) (time u) F.start (and_from _ _ (lt-ltb u v l) (h g)))
      (λ g. cond_both (ltb u v && picked u) (time u) F.start (λ z. z ≡ time u) (λ _. refl) (λ _. sym (arrivals_plain F nodes given u r g)))
      (cases_Bool (is_gate (at nodes u)))

  held_other : (v u : ℕ) → u ≢ v → held (v + 1) u ≡ held v u
  held_other v u n = ap (λ b. cond (b && picked u) (time u) F.start) (same_below u v n)

  held_off : (v u : ℕ) → picked u ≡ false → held v u ≡ F.start
  held_off v u p = cond-false (ltb u v && picked u) (time u) F.start (and_right (ltb u v) (picked u) p)

  -- the time of the cell at v
  cell_right : (v : ℕ) → picked v ≡ true → ((u : ℕ) → time_at F (times v) u ≡ held v u) → cell_time F (times v) (cell_of nodes v (given v)) ≡ time v
  cell_right v p h =
      let g = R.gates v p in
      let c = cut_says nodes v (given v) (R.cuts v p).0 in
      ap (λ ls. F.result (latest F (map (time_at F (times v)) ls)) (length ls)) (leaves_of_cell nodes v (given v))
      ∙ ap (λ ts. F.result (latest F ts) (length (given v)))
      (map_same (time_at F (times v)) (λ u. get_or (take v (arrivals F nodes given)) u F.start) (given v)
      (λ u i.
      let m = in_mem u (given v) i in
      let l = c.under u m in
      h u ∙ held_right v u l (omega (arith, g.0)) (R.leaves v u p m) ∙ sym (get_or-take v (arrivals F nodes given) u F.start l)))
      ∙ sym (arrivals_gate F L nodes k given v g.0 g.1)

  upto_times : (v u : ℕ) → time_at F (times v) u ≡ held v u
  upto_times zero u = sym (cond-false (ltb u 0 && picked u) (time u) F.start (and_left (ltb u 0) (picked u) (le-ltb u 0 (omega arith))))
  upto_times (suc v) u =
      let h = upto_times v in
      subst (λ n. time_at F (times n) u ≡ held n u) (add-one v)
      (⊎_elim
      (λ (p : picked v ≡ true).
      let c = cell_of nodes v (given v) in
      let new : times (v + 1) ≡ (v, cell_time F (times v) c) ∷ times v =
      ap (λ (n : _). times_after F [] n.cells) (upto_more nodes picked given v p) ∙ times_push F [] (cover_up_to nodes picked given v).cells c in
      ap (λ ts. time_at F ts u) new
      ∙ ⊎_elim
      (λ (e : u ≡ v).
      cond-true (eqb v u) _ _ (eq-eqb v u (sym e)) ∙ cell_right v p h ∙ ap time (sym e)
      ∙ sym (cond-true (ltb u (v + 1) && picked u) (time u) F.start (and_from _ _ (lt-ltb u (v + 1) (omega arith)) (ap picked e ∙ p))))
      (λ (e : u ≢ v). cond-false (eqb v u) _ _ (ne_eqb v u (λ x. e (sym x))) ∙ h u ∙ sym (held_other v u e))
      (cases_eq u v))
      (λ (p : picked v ≡ false).
      ap (λ (n : _). time_at F (times_after F [] n.cells) u) (upto_skip nodes picked given v p) ∙ h u
      ∙ ⊎_elim
      (λ (e : u ≡ v). let q = ap picked e ∙ p in held_off v u q ∙ sym (held_off (v + 1) u q))
      (λ (e : u ≢ v). sym (held_other v u e))
      (cases_eq u v))
      (cases_Bool (picked v)))

  -- the cover has the rival's arrival for each node that is picked if it is a gate
  pub rival_time : (v : ℕ) → v < length nodes → (is_gate (at nodes v) ≡ true → picked v ≡ true) → cover_arrival F (cover_by (drawing nodes outs) picked given) v ≡ get_or (arrivals F nodes given) v F.start
  unfolding cover_arrival cover_by
  rival_time v l h = upto_times (length nodes) v ∙ held_right (length nodes) v l l h

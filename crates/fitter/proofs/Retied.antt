-- A gate tied anew: the lists that stay kept are still whole.
use Rattle.std.proofs.Common.{◌≡◌, ℕ, Bool, true, false, not, ◌&&◌, ◌||◌, eqb, ◌≢◌, List, length, set, is_ok, Ok, sym, ap, ◌∙◌, subst}
use Rattle.std.proofs.lemmas.List.{get_or-set_other}
use Rattle.std.proofs.lemmas.Bool.{and_parts, not-true, eqb-false, or_parts, cond-true}
use Rattle.drawing.specs.declared.node.Pair.{Pair}
use Rattle.drawing.specs.declared.node.Node.{Node}
use Rattle.drawing.specs.declared.node.Node.TheVariants.{Constant, Gate}
use Rattle.drawing.specs.Calls.{retie_answer, after_retie}
use Rattle.drawing.specs.Drawing.{Drawing, drawing, at, is_gate, sound, lawful}
use Rattle.drawing.specs.Reach.{depends}
use Rattle.drawing.specs.Sets.{elem}
use Rattle.drawing.proofs.Lawful.{lawful_says}
use Rattle.drawing.proofs.Sound.{gate_range}
use Rattle.cuts.specs.declared.cut.Cut.{Cut}
use Rattle.cuts.specs.Cuts.{least_cuts}
use Rattle.cuts.specs.Leaves.{sets_of}
use Rattle.cuts.proofs.Stable.{list_retie}
use Rattle.fitter.proofs.Stays.{Stays, stays_same}

pub stays_equal : (old new : List Node) → new ≡ old → Stays old new
stays_equal old new e = subst (Stays old) (sym e) (stays_same old)

-- what an accepted call makes of the drawing
pub accepted : (d : Drawing) (g : ℕ) (p : Pair) → Ok tt ≡ retie_answer d g p → is_ok (retie_answer d g p) ≡ true
accepted d g p e = ap is_ok (sym e)

pub tied : (d e : Drawing) (g : ℕ) (p : Pair) → Ok tt ≡ retie_answer d g p → e ≡ after_retie d g p → e ≡ drawing (set d.nodes g (Gate p)) d.outputs
tied d e g p a is = is ∙ cond-true _ _ _ (accepted d g p a)

module _ (d e : Drawing) (g : ℕ) (p : Pair) (k : ℕ) (is : e ≡ drawing (set d.nodes g (Gate p)) d.outputs) (old : lawful d ≡ true) (new : lawful e ≡ true)
    (held after marks : ℕ → Bool) (rows rows' : ℕ → List Cut)
    (left : (u : ℕ) → after u ≡ (held u && not (marks u)))
    (marked : (u : ℕ) → marks u ≡ (eqb u g || depends d.nodes g u))
    (same : (u : ℕ) → rows' u ≡ rows u)
    (gates : (v : ℕ) → held v ≡ true → is_gate (at d.nodes v) ≡ true) where
  -- a list that is still kept was kept, and its gate is neither g nor depends on it
  parts : (v : ℕ) → after v ≡ true → (held v ≡ true) × (v ≢ g) × (depends d.nodes g v ≡ false)
  parts v h =
      let q = and_parts (held v) (not (marks v)) (sym (left v) ∙ h) in
      let r = or_parts (eqb v g) (depends d.nodes g v) (sym (marked v) ∙ not-true _ q.1) in
      (q.0, eqb-false v g r.0, r.1)

  still : (v : ℕ) → after v ≡ true → (is_gate (at e.nodes v) ≡ true) × (least_cuts d.nodes k v ≡ least_cuts e.nodes k v)
  still v h =
      let q = parts v h in
      let gate = gates v q.0 in
      let n : e.nodes ≡ set d.nodes g (Gate p) = ap (λ z. z.nodes) is in
      let s = (lawful_says d.nodes d.outputs old).nodes_sound in
      let t = subst (λ z. sound z ≡ true) n (lawful_says e.nodes e.outputs new).nodes_sound in (
        subst (λ z. is_gate (at z v) ≡ true) (sym n) (ap is_gate (get_or-set_other d.nodes g v (Gate p) Constant q.1) ∙ gate),
        list_retie d.nodes g (Gate p) k v s t (gate_range d.nodes v gate) q.1 q.2 ∙ ap (λ z. least_cuts z k v) (sym n),
      )

  pub retied_gates : (v : ℕ) → after v ≡ true → is_gate (at e.nodes v) ≡ true
  retied_gates v h = (still v h).0

  pub retied_listed : ((v : ℕ) → held v ≡ true → (s : List ℕ) → elem s (sets_of (rows v)) ≡ elem s (least_cuts d.nodes k v)) → (v : ℕ) → after v ≡ true → (s : List ℕ) → elem s (sets_of (rows' v)) ≡ elem s (least_cuts e.nodes k v)
  retied_listed l v h s = ap (λ z. elem s (sets_of z)) (same v) ∙ l v (parts v h).0 s ∙ ap (elem s) (still v h).1

  pub retied_counted : ((v : ℕ) → held v ≡ true → length (rows v) ≡ length (least_cuts d.nodes k v)) → (v : ℕ) → after v ≡ true → length (rows' v) ≡ length (least_cuts e.nodes k v)
  retied_counted c v h = ap length (same v) ∙ c v (parts v h).0 ∙ ap length (still v h).1

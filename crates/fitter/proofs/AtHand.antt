-- What a job has at hand for making the list of a gate, and that keeping that list leaves the job's facts.
use Rattle.std.proofs.Common.{◌≡◌, ℕ, ◌*◌, ◌<◌, ◌≤◌, Bool, true, false, ◌||◌, eqb, ◌≢◌, List, length, drop, length-take, sym, refl, ap, ◌∙◌, subst, inl, inr, ⊎_elim, arith}
use Rattle.std.proofs.lemmas.Bool.{and_parts, leb-true, cases_eq, ne_eqb}
use Rattle.std.specs.Prelude.{Option, Some, None, MatchOption}
use Rattle.std.proofs.Common.{Bor}
use Rattle.drawing.specs.declared.node.Pair.{Pair}
use Rattle.drawing.specs.declared.node.Node.{Node}
use Rattle.drawing.specs.declared.node.Node.TheVariants.{Gate}
use Rattle.drawing.specs.Drawing.{at, is_gate, fanins, node_of, sound, most_leaves, most_nodes}
use Rattle.drawing.specs.Sets.{elem, In}
use Rattle.drawing.proofs.Lawful.{lawful_says}
use Rattle.drawing.proofs.Sound.{gate_range, fanins_below_lem}
use Rattle.cuts.specs.declared.cut.Cut.{Cut}
use Rattle.cuts.specs.Cuts.{least_cuts}
use Rattle.cuts.specs.Leaves.{sets_of}
use Rattle.cuts.specs.Limits.{most_cuts}
use Rattle.cuts.specs.Lists.{Lists}
use Rattle.fitter.specs.declared.job.Job.{Job}
use Rattle.fitter.specs.declared.kept.Kept.{Kept}
use Rattle.fitter.specs.Jobs.{book_of, is_kept}
use Rattle.fitter.specs.Keeping.{held_of, row_of}
use Rattle.fitter.specs.Making.{FaninsKept}
use Rattle.fitter.specs.Rows.{slot_at}

pub row_short : (k : Kept) (v : ℕ) → length (row_of k v) ≤ most_cuts
row_short k v = omega (arith, length-take (slot_at k.slots v).len (drop (v * most_cuts) k.cuts), k.short v)

module _ (j : Job) where
  abbrev pub nodes_of : List Node
  nodes_of = (book_of j).drawing.nodes

  pub job_sound : sound nodes_of ≡ true
  job_sound = (lawful_says _ _ j.table.law).nodes_sound

  pub job_few : length nodes_of ≤ most_nodes
  job_few = (lawful_says _ _ j.table.law).nodes_few

  pub width_few : j.width ≤ most_leaves
  width_few = leb-true _ _ (and_parts _ _ j.part).1

  module _ (v : ℕ) (gate : is_gate (at nodes_of v) ≡ true) (fans : FaninsKept j v) (ns : List Node) (is : ns ≡ nodes_of) where
    module _ (p : Pair) (tied : at ns v ≡ Gate p) where
      gated : at nodes_of v ≡ Gate p
      gated = rw is at tied

      left_in : In (node_of p.left) (fanins (at nodes_of v))
      left_in = rw gated (inl refl)

      right_in : In (node_of p.right) (fanins (at nodes_of v))
      right_in = rw gated (inr (inl refl))

      pub left_small : node_of p.left < 256
      left_small = omega (arith, fanins_below_lem nodes_of v (node_of p.left) job_sound (gate_range nodes_of v gate) left_in, gate_range nodes_of v gate, job_few)

      pub right_small : node_of p.right < 256
      right_small = omega (arith, fanins_below_lem nodes_of v (node_of p.right) job_sound (gate_range nodes_of v gate) right_in, gate_range nodes_of v gate, job_few)

or_none : (a b : Bool) → b ≡ false → a ≡ (a || b)
or_none true b h = refl
or_none false b h = sym h

-- the lent list of a gate, if it is kept
pub list_lent : (j : Job) (v : ℕ) (r : Option (Bor (List Cut))) → MatchOption r (held_of j.lists v ≡ false) (λ l. (held_of j.lists v ≡ true) × (l.now ≡ row_of j.lists v)) → MatchOption r (is_kept j v ≡ false) (λ l. (is_kept j v ≡ true) × Lists (nodes_of j) j.width v l.now)
list_lent j v None h = h
list_lent j v (Some l) h = (h.0, subst (Lists (nodes_of j) j.width v) (sym h.1) ((λ s. j.listed v h.0 s), j.counted v h.0))

-- one list more
module _ (j : Job) (k : Kept) (v : ℕ) (list : List Cut) (gate : is_gate (at (nodes_of j) v) ≡ true) (whole : Lists (nodes_of j) j.width v list)
    (held : (u : ℕ) → held_of k u ≡ (held_of j.lists u || eqb u v)) (row : row_of k v ≡ list) (others : (u : ℕ) → (u ≡ v → ⊥) → row_of k u ≡ row_of j.lists u) where
  old : (u : ℕ) → u ≢ v → held_of k u ≡ true → is_kept j u ≡ true
  old u ne h = or_none (held_of j.lists u) (eqb u v) (ne_eqb u v ne) ∙ sym (held u) ∙ h

  pub keep_gates : (u : ℕ) → held_of k u ≡ true → is_gate (at (nodes_of j) u) ≡ true
  keep_gates u h = ⊎_elim (λ (e : u ≡ v). rw e gate) (λ (e : u ≢ v). j.gates u (old u e h)) (cases_eq u v)

  pub keep_listed : (u : ℕ) → held_of k u ≡ true → (s : List ℕ) → elem s (sets_of (row_of k u)) ≡ elem s (least_cuts (nodes_of j) j.width u)
  keep_listed u h s =
      ⊎_elim
      (λ (e : u ≡ v). subst (λ z. elem s (sets_of (row_of k z)) ≡ elem s (least_cuts (nodes_of j) j.width z)) (sym e) (ap (λ z. elem s (sets_of z)) row ∙ whole.0 s))
      (λ (e : u ≢ v). ap (λ z. elem s (sets_of z)) (others u e) ∙ j.listed u (old u e h) s)
      (cases_eq u v)

  pub keep_counted : (u : ℕ) → held_of k u ≡ true → length (row_of k u) ≡ length (least_cuts (nodes_of j) j.width u)
  keep_counted u h =
      ⊎_elim
      (λ (e : u ≡ v). subst (λ z. length (row_of k z) ≡ length (least_cuts (nodes_of j) j.width z)) (sym e) (ap length row ∙ whole.1))
      (λ (e : u ≢ v). ap length (others u e) ∙ j.counted u (old u e h))
      (cases_eq u v)

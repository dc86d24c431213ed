-- The table of arrivals, filled from below: a needed gate takes its cut from the list at hand, and every other node has the start.
use Rattle.std.proofs.Common.{◌≡◌, ℕ, ◌+◌, ◌<◌, ◌≤◌, true, false, not, ◌≢◌, Option, Some, None, MatchOption, List, [], ◌∷◌, map, length, get_or, set, sym, refl, ap, ◌∙◌, inl, ⊎_elim, arith}
use Rattle.std.proofs.lemmas.Bool.{and_parts, cases_Bool, cases_eq, cond-true, cond-false, and_left, and_right, not_from_true, not_from_false, and_from}
use Rattle.std.proofs.lemmas.List.{get_or-set_same, get_or-set_other, length-set, get_or-map}
use Rattle.drawing.specs.declared.node.Node.{Node}
use Rattle.drawing.specs.Sets.{below, every, In}
use Rattle.drawing.specs.Drawing.{drawing, at, is_gate, lawful}
use Rattle.drawing.specs.Reach.{needed}
use Rattle.drawing.proofs.Members.{elem_in, in_elem, in_every}
use Rattle.drawing.proofs.SetLaws.{says_below}
use Rattle.drawing.proofs.Lawful.{lawful_says}
use Rattle.drawing.proofs.Sound.{gate_range}
use Rattle.cuts.specs.Cuts.{least_cuts, Alike}
use Rattle.cuts.proofs.LeastCuts.{list_in}
use Rattle.family.specs.Family.{Delay, Laws, cell_arrival}
use Rattle.choice.specs.Choice.{taken, best, taken_cut, tabled, Filled, cut_at, Chosen, cut_by, arrival_by}
use Rattle.choice.proofs.Optimal.{best_plain}
use Rattle.choice.proofs.OwnCover.{list_some}
use Rattle.choice.proofs.Needed.{needed_suffice}

module _ (nodes : List Node) (outs : List ℕ) (law : lawful (drawing nodes outs) ≡ true) (k : ℕ) where
  -- a list in any order has the cuts of the gate's list, all of them below the gate
  pub listed_within : (v n : ℕ) (sets : List (List ℕ)) → v ≤ n → Alike sets (least_cuts nodes k v) → every (below n) sets ≡ true
  listed_within v n sets l a =
      in_every (below n) sets (λ s i. says_below n s (λ u m. omega (arith, (list_in nodes k v s (elem_in s _ (sym (a s) ∙ in_elem s sets i))).0.is_cut.under u m)))

  pub listed_some : (v : ℕ) (sets : List (List ℕ)) → 2 ≤ k → needed nodes outs v ≡ true → Alike sets (least_cuts nodes k v) → 0 < length sets
  listed_some v sets w n a =
      let g = (and_parts (is_gate (at nodes v)) _ n).0 in
      let d = (lawful_says nodes outs law).nodes_sound in
      go (least_cuts nodes k v) sets (list_some nodes d v (gate_range nodes v g) g k w) (λ s i. elem_in s sets (a s ∙ in_elem s _ i))
    where
      go : (xs ys : List (List ℕ)) → 0 < length xs → ((s : List ℕ) → In s xs → In s ys) → 0 < length ys
      go xs (y ∷ ys) l h = omega arith
      go (x ∷ xs) [] l h = absurd (h x (inl refl))
      go [] [] l h = absurd (omega arith)

  -- a node that is no needed gate has the start in the table
  plain_tabled : {A : Type 0} (F : Delay A) → Laws F → (v : ℕ) → v < length nodes → needed nodes outs v ≡ false → F.start ≡ tabled F nodes outs k v
  plain_tabled F L v l n =
      ⊎_elim
      (λ g. sym (cond-true _ _ _ (and_from (is_gate (at nodes v)) (not (needed nodes outs v)) g (not_from_false _ n))))
      (λ g. sym (best_plain F L nodes k v l g) ∙ sym (cond-false _ _ _ (and_left (is_gate (at nodes v)) (not (needed nodes outs v)) g)))
      (cases_Bool (is_gate (at nodes v)))

  -- a list is at hand for a needed gate alone, and has the cuts of the gate's list in any order
  abbrev pub AtHand : ℕ → Option (List (List ℕ)) → Type 0
  AtHand v list = MatchOption list (needed nodes outs v ≡ false) (λ sets. (needed nodes outs v ≡ true) × Alike sets (least_cuts nodes k v))

  module _ {A : Type 0} (F : Delay A) (L : Laws F) (wide : 2 ≤ k) (v : ℕ) (table : List A) (filled : Filled F nodes outs k v table) where
    suffices : (sets : List (List ℕ)) → needed nodes outs v ≡ true → Alike sets (least_cuts nodes k v) → (taken F table sets ≡ taken_cut F nodes k v) × (cell_arrival F table (taken F table sets) ≡ get_or (best F nodes k) v F.start)
    suffices sets n a =
        let w = lawful_says nodes outs law in
        needed_suffice F L nodes outs k v table sets w.nodes_sound wide w.outputs_named n filled a

    -- a needed gate takes its cut, and every other node none
    pub cut_right : (list : Option (List (List ℕ))) → AtHand v list → cut_by F table list ≡ cut_at F nodes outs k v
    cut_right None n = sym (cond-false _ _ _ n)
    cut_right (Some sets) h = (suffices sets h.0 h.1).0 ∙ sym (cond-true _ _ _ h.0)

    arrival_right : (list : Option (List (List ℕ))) → AtHand v list → v < length nodes → arrival_by F table list ≡ tabled F nodes outs k v
    arrival_right None n l = plain_tabled F L v l n
    arrival_right (Some sets) h l = (suffices sets h.0 h.1).1 ∙ sym (cond-false _ _ _ (and_right (is_gate (at nodes v)) _ (not_from_true _ h.0)))

    -- one more node
    pub filled_more : (list : Option (List (List ℕ))) → AtHand v list → (new : List A) → v < length nodes → v < length table → new ≡ set table v (arrival_by F table list) → Filled F nodes outs k (v + 1) new
    filled_more list h new l room e u b =
        let x = arrival_by F table list in
        ap (λ z. get_or z u F.start) e
        ∙ ⊎_elim
        (λ (s : u ≡ v). ap (λ z. get_or (set table v x) z F.start) s ∙ get_or-set_same table v x F.start room ∙ arrival_right list h l ∙ ap (tabled F nodes outs k) (sym s))
        (λ (s : u ≢ v). get_or-set_other table v u x F.start s ∙ filled u (omega arith))
        (cases_eq u v)

-- one more cut, among those by node
pub chosen_more : {A X : Type 0} (F : Delay A) (nodes : List Node) (outs : List ℕ) (k : ℕ) (f : X → List ℕ) (xs : List X) (v : ℕ) (x : X) → v < length xs → Chosen F nodes outs k v (map f xs) → f x ≡ cut_at F nodes outs k v → Chosen F nodes outs k (v + 1) (map f (set xs v x))
chosen_more F nodes outs k f xs v x l h e u b =
    let m : u < length (set xs v x) = omega (arith, length-set xs v x) in
    get_or-map f (set xs v x) u x [] m
    ∙ ⊎_elim
    (λ (s : u ≡ v). ap (λ z. f (get_or (set xs v x) z x)) s ∙ ap f (get_or-set_same xs v x x l) ∙ e ∙ ap (cut_at F nodes outs k) (sym s))
    (λ (s : u ≢ v). ap f (get_or-set_other xs v u x x s) ∙ sym (get_or-map f xs u x [] (omega arith)) ∙ h u (omega arith))
    (cases_eq u v)

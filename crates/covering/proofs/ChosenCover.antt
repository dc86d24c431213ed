-- The chosen cover is the rival that takes the best cuts: it is a lawful cover, it has the best arrivals, and no other is earlier.
use Rattle.std.proofs.Common.{◌≡◌, ℕ, ◌<◌, ◌≤◌, true, length, get_or, sym, refl, ap, ◌∙◌, subst}
use Rattle.drawing.specs.Drawing.{Drawing, at, node_of, is_gate, lawful}
use Rattle.drawing.proofs.Lawful.{lawful_says}
use Rattle.family.specs.Family.{Delay, Laws}
use Rattle.choice.specs.Choice.{taken_cut, is_cell, cells}
use Rattle.choice.specs.Rivals.{Rival, arrivals}
use Rattle.choice.proofs.OwnCover.{own_rival, own_arrivals}
use Rattle.cells.proofs.Agree.{covers_agree}
use Rattle.covering.specs.Chosen.{cover_by, chosen}
use Rattle.covering.specs.Times.{cover_arrival}
use Rattle.covering.specs.Claims.{Narrow, RivalsCover, ChosenCovers, ChosenAgrees, ChosenNarrow, ChosenFits, ChosenEarliest, ChosenFirst, ChosenBest}
use Rattle.covering.proofs.RivalCover.{rival_lawful, rival_covers, rival_narrow}
use Rattle.covering.proofs.RivalTimes.{rival_time}
use Rattle.covering.proofs.AnyCover.{cover_late}

pub rivals_cover : RivalsCover
rivals_cover d k law wide few picked given R =
    let s = (lawful_says d.nodes d.outputs law).nodes_sound in
    ((rival_lawful d.nodes d.outputs k picked given s few R law, rival_covers d.nodes d.outputs k picked given s few R law), rival_narrow d.nodes d.outputs k picked given s few R)

module _ {A : Type 0} (F : Delay A) where
  pub chosen_is : (d : Drawing) (k : ℕ) → chosen F d k ≡ cover_by d (is_cell F d.nodes k d.outputs) (taken_cut F d.nodes k)
  unfolding chosen cover_by cells
  chosen_is d k = refl

  pub chosen_fits : ChosenFits F
  unfolding chosen
  chosen_fits d k law wide few = (refl, refl)

module _ {A : Type 0} (F : Delay A) (L : Laws F) where
  own : (d : Drawing) (k : ℕ) → lawful d ≡ true → 2 ≤ k → Rival d.nodes d.outputs k (is_cell F d.nodes k d.outputs) (taken_cut F d.nodes k)
  own d k law wide =
      let w = lawful_says d.nodes d.outputs law in
      own_rival F L d.nodes w.nodes_sound k wide d.outputs w.outputs_named

  pub chosen_covers : ChosenCovers F
  chosen_covers d k law wide few = rw (chosen_is F d k) (rivals_cover d k law wide few _ _ (own d k law wide)).0

  pub chosen_agrees : ChosenAgrees F
  chosen_agrees d k law wide few row b = let c = chosen_covers d k law wide few in covers_agree d (chosen F d k) row c.0 c.1 b

  pub chosen_narrow : ChosenNarrow F
  chosen_narrow d k law wide few = subst (Narrow k) (sym (chosen_is F d k)) (rivals_cover d k law wide few _ _ (own d k law wide)).1

  -- a node of the chosen cover that is a cell if it is a gate
  chosen_time : (d : Drawing) (k : ℕ) → lawful d ≡ true → 2 ≤ k → (v : ℕ) → v < length d.nodes → (is_gate (at d.nodes v) ≡ true → is_cell F d.nodes k d.outputs v ≡ true) → cover_arrival F (chosen F d k) v ≡ get_or (arrivals F d.nodes (taken_cut F d.nodes k)) v F.start
  chosen_time d k law wide v l h =
      ap (λ n. cover_arrival F n v) (chosen_is F d k)
      ∙ rival_time F L d.nodes d.outputs k _ _ (own d k law wide) v l h

  pub chosen_best : ChosenBest F
  chosen_best d k law wide few =
      let w = lawful_says d.nodes d.outputs law in
      let R = own d k law wide in
      let e = own_arrivals F L d.nodes w.nodes_sound k wide in (
        (λ v c. chosen_time d k law wide v (R.gates v c).0 (λ _. c) ∙ ap (λ ts. get_or ts v F.start) e),
        (λ o i. chosen_time d k law wide (node_of o) (w.outputs_named o i) (R.outputs o i) ∙ ap (λ ts. get_or ts (node_of o) F.start) e),
      )

  pub chosen_earliest : ChosenEarliest F
  chosen_earliest d k law wide few n c narrow o i =
      let s = (lawful_says d.nodes d.outputs law).nodes_sound in
      rw ((chosen_best d k law wide few).1 o i) (cover_late F L d.nodes s k few d.outputs n c.0 c.1 narrow o i)

  pub chosen_first : ChosenFirst F
  chosen_first d k law wide few picked given R o i =
      let r = rivals_cover d k law wide few picked given R in
      chosen_earliest d k law wide few (cover_by d picked given) r.0 r.1 o i

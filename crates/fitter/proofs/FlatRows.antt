-- Flat rows: writing one row leaves the others.
use Rattle.std.proofs.Common.{◌≡◌, ℕ, zero, suc, false, ◌+◌, ◌-◌, ◌*◌, ◌<◌, ◌≤◌, ◌≢◌, List, length, take, drop, replicate, refl, sym, ap, ◌∙◌, subst, ⊎_elim, arith}
use borrow.Rule.Slice.PartMut.{put_mid}
use Rattle.std.proofs.lemmas.Slice.{between_is, between-put_mid, take-put_mid_below, drop-put_mid}
use Rattle.std.proofs.lemmas.Bool.{cases_order}
use Rattle.cuts.specs.Limits.{most_cuts}
use Rattle.fitter.specs.declared.kept.Slot.{Slot}
use Rattle.fitter.specs.Rows.{slot_at, row_at}

module _ {X : Type 0} (flat list part : List X) (v base k : ℕ) (few : length list ≤ most_cuts) (is : part ≡ list) (same : k ≡ length list) (at : base ≡ v * most_cuts) (room : base + length list ≤ length flat) where
  abbrev new : List X
  new = put_mid base k flat part

  pub row_put : (slots : List Slot) → (slot_at slots v).len ≡ length list → row_at new slots v ≡ list
  row_put slots e =
      let p : base + length list - base ≡ length list = omega arith in
      let q : take (slot_at slots v).len (drop base new) ≡ list =
      ap (λ n. take n (drop base new)) (e ∙ sym p) ∙ between-put_mid base k flat part (base + length list) (omega arith) (ap length is ∙ sym p) ∙ is in
      subst (λ b. take (slot_at slots v).len (drop b new) ≡ list) at q

  pub row_kept : (slots : List Slot) (u : ℕ) → u ≢ v → (slot_at slots u).len ≤ most_cuts → row_at new slots u ≡ row_at flat slots u
  row_kept slots u ne short =
      let b = u * most_cuts in
      let n = (slot_at slots u).len in
      let below : u < v → row_at new slots u ≡ row_at flat slots u = λ l.
      let q : b + n - b ≡ n = omega arith in
      ap (λ m. take m (drop b new)) (sym q) ∙ between_is new b (b + n)
      ∙ ap (drop b) (take-put_mid_below base k flat part (b + n) (omega arith) (omega arith))
      ∙ sym (between_is flat b (b + n)) ∙ ap (λ m. take m (drop b flat)) q in
      let above : v < u → row_at new slots u ≡ row_at flat slots u = λ l.
      ap (take n) (drop-put_mid base k flat part b (omega arith) (omega arith) (ap length is ∙ sym same)) in
      ⊎_elim (λ e. absurd (ne e)) (⊎_elim below above) (cases_order u v)

-- each slot the same
pub each_held : (n v : ℕ) (s : Slot) → s.held ≡ false → (slot_at (replicate n s) v).held ≡ false
each_held zero v s h = refl
each_held (suc n) zero s h = h
each_held (suc n) (suc v) s h = each_held n v s h

pub each_short : (n v : ℕ) (s : Slot) → s.len ≤ most_cuts → (slot_at (replicate n s) v).len ≤ most_cuts
each_short zero v s h = omega arith
each_short (suc n) zero s h = h
each_short (suc n) (suc v) s h = each_short n v s h

-- Sections written one behind the other.
use Rattle.std.proofs.Common.{◌≡◌, ℕ, zero, suc, ◌+◌, ◌-◌, ◌<◌, ◌≤◌, Bool, true, false, cond, leb, List, [], ◌∷◌, ◌++◌, length, get_or, take, drop, is_ok, Ok, Err, Result, sym, refl, ap, ◌∙◌, subst, arith, length-append}
use borrow.Rule.Slice.PartMut.{put_mid}
use Rattle.std.specs.List.{flat_map}
use Rattle.std.proofs.lemmas.Bool.{cond-true, lt-ltb, leb-false}
use Rattle.drawing.specs.declared.refusal.Refusal.{Refusal}
use Rattle.drawing.specs.declared.refusal.Refusal.TheVariants.{TooShort}
use Rattle.cells.specs.Netlist.{Netlist}
use Rattle.blif.specs.Text.{texts}
use Rattle.blif.specs.Sections.{section_count, section_text, section_answer, section_writes}
use Rattle.flow.specs.Listing.{cell_list, Printed}
use Rattle.std.proofs.lemmas.List.{take_more, take_all, append_assoc, append-nil, drop-drop, length-drop, take_at, drop_at, drop_all}

-- the first k of the texts stand at the front, `at` bytes in all, and behind them what stood there
pub record Written (ts : List (List ℕ)) (k at : ℕ) (old new : List ℕ) : Type 0 where
  pub long : at ≡ length (flat_map (λ t. t) (take k ts))
  pub bytes : new ≡ flat_map (λ t. t) (take k ts) ++ drop at old

joined_push : (ts : List (List ℕ)) (t : List ℕ) → flat_map (λ z. z) (ts ++ t ∷ []) ≡ flat_map (λ z. z) ts ++ t
joined_push [] t = append-nil t
joined_push (x ∷ xs) t = ap (λ z. x ++ z) (joined_push xs t) ∙ sym (append_assoc x (flat_map (λ z. z) xs) t)

module _ (ts : List (List ℕ)) (k : ℕ) (inside : k < length ts) where
  joined_next : flat_map (λ z. z) (take (k + 1) ts) ≡ flat_map (λ z. z) (take k ts) ++ get_or ts k []
  joined_next = ap (flat_map (λ z. z)) (take_more ts k [] inside) ∙ joined_push (take k ts) (get_or ts k [])

  -- one text more
  pub written_more : (at : ℕ) (old new next part : List ℕ) (m : ℕ) → Written ts k at old new → at ≤ length new →
      next ≡ take at new ++ part → part ≡ get_or ts k [] ++ drop (length (get_or ts k [])) (drop at new) → m ≡ length (get_or ts k []) →
      Written ts (k + 1) (at + m) old next
  written_more at old new next part m w l n p e =
      let t = get_or ts k [] in
      let js = flat_map (λ z. z) (take k ts) in
      let front : take at new ≡ js = ap (take at) w.bytes ∙ take_at js (drop at old) at (sym w.long) in
      let back : drop at new ≡ drop at old = ap (drop at) w.bytes ∙ drop_at js (drop at old) at (sym w.long) in
      record {
        long = omega (arith, e, w.long, length-append js t, ap length joined_next);
        bytes =
            n ∙ ap (λ z. z ++ part) front ∙ ap (λ z. js ++ z) (p ∙ ap (λ z. t ++ drop (length t) z) back)
            ∙ sym (append_assoc js t (drop (length t) (drop at old)))
            ∙ ap (λ z. z ++ drop (length t) (drop at old)) (sym joined_next)
            ∙ ap (λ z. flat_map (λ q. q) (take (k + 1) ts) ++ z) (ap (λ z. drop z (drop at old)) (sym e) ∙ drop-drop m at old);
      }

pub written_none : (ts : List (List ℕ)) (old : List ℕ) → Written ts 0 0 old old
written_none ts old = record { long = refl; bytes = refl }

pub written_all : (ts : List (List ℕ)) (k at : ℕ) (old new : List ℕ) → length ts ≤ k → Written ts k at old new → (at ≡ length (flat_map (λ t. t) ts)) × (new ≡ flat_map (λ t. t) ts ++ drop at old)
written_all ts k at old new l w =
    let e = ap (flat_map (λ t. t)) (take_all k ts l) in
    (w.long ∙ ap length e, w.bytes ∙ ap (λ z. z ++ drop at old) e)

-- what a text lacks, all lack
pub joined_longer : (ts : List (List ℕ)) (k : ℕ) → k < length ts → length (flat_map (λ t. t) (take k ts)) + length (get_or ts k []) ≤ length (flat_map (λ t. t) ts)
joined_longer [] k l = absurd (omega arith)
joined_longer (t ∷ ts) zero l = omega (arith, length-append t (flat_map (λ z. z) ts))
joined_longer (t ∷ ts) (suc k) l = omega (arith, length-append t (flat_map (λ z. z) (take k ts)), length-append t (flat_map (λ z. z) ts), joined_longer ts k (omega arith))

-- the bytes so far lie in the buffer
pub written_room : (ts : List (List ℕ)) (k at : ℕ) (old new : List ℕ) → Written ts k at old new → at ≤ length new
written_room ts k at old new w = omega (arith, w.long, ap length w.bytes, length-append (flat_map (λ t. t) (take k ts)) (drop at old))

-- what a section's call says of an accepted section, and of one that did not fit
module _ (n : Netlist) (k : ℕ) (part : List ℕ) (inside : k < section_count n) where
  fits : (b : Bool) → leb (length (section_text n k)) (length part) ≡ b → section_answer n k part ≡ cond b (Ok (length (section_text n k))) (Err TooShort)
  fits b e = cond-true _ _ _ (lt-ltb k (section_count n) inside) ∙ ap (λ z. cond z (Ok (length (section_text n k))) (Err TooShort)) e

  pub section_ok : (m : ℕ) (part' : List ℕ) → Ok m ≡ section_answer n k part → part' ≡ section_writes n k part → (m ≡ length (section_text n k)) × (part' ≡ section_text n k ++ drop (length (section_text n k)) part)
  section_ok m part' a w = go (leb (length (section_text n k)) (length part)) refl
    where
      go : (b : Bool) → leb (length (section_text n k)) (length part) ≡ b → (m ≡ length (section_text n k)) × (part' ≡ section_text n k ++ drop (length (section_text n k)) part)
      go true e = let q : Ok m ≡ Ok (length (section_text n k)) = a ∙ fits true e in (cc, w ∙ cond-true _ _ _ (ap is_ok (sym a)))
      go false e = let q : Ok m ≡ Err TooShort = a ∙ fits false e in let z : ◌≡◌ {A = ℕ} 0 1 = cc in absurd (omega arith)

  pub section_short : (e : Refusal) → Err e ≡ section_answer n k part → (e ≡ TooShort) × (length part < length (section_text n k))
  section_short e a = go (leb (length (section_text n k)) (length part)) refl
    where
      go : (b : Bool) → leb (length (section_text n k)) (length part) ≡ b → (e ≡ TooShort) × (length part < length (section_text n k))
      go true h = let q : Err e ≡ Ok (length (section_text n k)) = a ∙ fits true h in let z : ◌≡◌ {A = ℕ} 0 1 = cc in absurd (omega arith)
      go false h = let q : Err e ≡ Err TooShort = a ∙ fits false h in (cc, leb-false _ _ h)

-- the whole cell list
pub list_done : (n : Netlist) (k at : ℕ) (old new : List ℕ) → section_count n ≤ k → Written (texts n) k at old new → (at ≡ length (cell_list n)) × (new ≡ cell_list n ++ drop at old)
unfolding cell_list
list_done n k at old new l w = written_all (texts n) k at old new l w

pub list_short : (n : Netlist) (k at : ℕ) (old new : List ℕ) → k < section_count n → Written (texts n) k at old new → length new ≡ length old → length (drop at new) < length (section_text n k) → length old < length (cell_list n)
unfolding cell_list
list_short n k at old new l w same s =
    omega (arith, joined_longer (texts n) k l, w.long, length-drop at new, written_room (texts n) k at old new w)

-- a part that reaches to the end, written
pub put_end : (at : ℕ) (xs ys : List ℕ) → at ≤ length xs → put_mid at (length xs - at) xs ys ≡ take at xs ++ ys
put_end at xs ys l =
    ap (λ z. take at xs ++ (ys ++ z)) (drop_all (length xs - at) (drop at xs) (omega (arith, length-drop at xs))) ∙ ap (λ z. take at xs ++ z) (append-nil ys)

pub printed_short : (bytes out : List ℕ) (r : Result ℕ Refusal) (out' : List ℕ) (e : Refusal) → r ≡ Err e → e ≡ TooShort → length out < length bytes → Printed bytes out r out'
printed_short bytes out r out' e is short l = subst (λ z. Printed bytes out z out') (sym is) (short, l)

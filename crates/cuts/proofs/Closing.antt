-- What closes a node: the law of `closes`, and what carries it from one set and drawing to another.
use Rattle.std.proofs.Common.{◌≡◌, ℕ, zero, suc, ◌<◌, ◌≤◌, Bool, true, false, ◌&&◌, ◌||◌, eqb, leb, List, length, get_or, take, sym, refl, ◌∙◌, ⊎_elim, arith}
use Rattle.std.proofs.lemmas.Bool.{and_parts, and_from, or_cases, or_left, or_right, eqb-true, eq-eqb, both_ways, le-leb, leb-true, cases_lt}
use Rattle.std.proofs.lemmas.List.{get_or-take, get_or_past}
use Rattle.drawing.specs.declared.node.Node.{Node}
use Rattle.drawing.specs.declared.node.Node.TheVariants.{Constant}
use Rattle.drawing.specs.Sets.{mem, every, In}
use Rattle.drawing.specs.Column.{column}
use Rattle.drawing.specs.Drawing.{at, fanins, is_gate, sound}
use Rattle.cuts.specs.Cuts.{closing, closes}
use Rattle.drawing.proofs.Members.{every_in, in_every, every_same}
use Rattle.drawing.proofs.Sound.{fanins_below_lem}
use Rattle.drawing.proofs.ColumnLaws.{column_at, length_lower, length_column}

pub closes_is : (nodes : List Node) (s : List ℕ) (n : ℕ) → sound nodes ≡ true → n < length nodes → closes nodes s n ≡ (eqb n 0 || mem n s || (is_gate (at nodes n) && every (closes nodes s) (fanins (at nodes n))))
unfolding closes
closes_is nodes s n d l =
    let lower = take n (column (closing s) nodes) in
    let a = column_at (closing s) nodes n false Constant l in
    let b = length_lower (closing s) nodes n (omega arith) in
    let c = every_same (λ f. get_or lower f false) (λ f. get_or (column (closing s) nodes) f false) (fanins (at nodes n)) (λ f m. get_or-take n (column (closing s) nodes) f false (fanins_below_lem nodes n f d l m)) in
    cc

pub closes_range : (nodes : List Node) (s : List ℕ) (n : ℕ) → closes nodes s n ≡ true → n < length nodes
unfolding closes
closes_range nodes s n h =
    ⊎_elim (λ l. l) (λ l. absurd (both_ways _ (get_or_past (column (closing s) nodes) n false (omega (arith, length_column (closing s) nodes))) h)) (cases_lt n (length nodes))

-- the three ways
pub data Closed (nodes : List Node) (s : List ℕ) (n : ℕ) : Type 0 where
  zeroth : n ≡ 0 → Closed nodes s n
  member : mem n s ≡ true → Closed nodes s n
  through : is_gate (at nodes n) ≡ true → ((f : ℕ) → In f (fanins (at nodes n)) → closes nodes s f ≡ true) → Closed nodes s n

pub closes_ways : (nodes : List Node) (s : List ℕ) (n : ℕ) → sound nodes ≡ true → closes nodes s n ≡ true → Closed nodes s n
closes_ways nodes s n d h =
    let e = closes_is nodes s n d (closes_range nodes s n h) in
    ⊎_elim
    (λ x. ⊎_elim (λ y. zeroth (eqb-true n 0 y)) (λ y. member y) (or_cases _ _ x))
    (λ x. let p = and_parts _ _ x in through p.0 (λ f m. every_in (closes nodes s) f (fanins (at nodes n)) p.1 m))
    (or_cases (eqb n 0 || mem n s) _ (sym e ∙ h))

pub closes_by : (nodes : List Node) (s : List ℕ) (n : ℕ) → sound nodes ≡ true → n < length nodes → Closed nodes s n → closes nodes s n ≡ true
closes_by nodes s n d l (zeroth e) = closes_is nodes s n d l ∙ or_left _ _ (or_left _ _ (eq-eqb n 0 e))
closes_by nodes s n d l (member m) = closes_is nodes s n d l ∙ or_left _ _ (or_right _ _ m)
closes_by nodes s n d l (through g h) = closes_is nodes s n d l ∙ or_right _ _ (and_from _ _ g (in_every (closes nodes s) (fanins (at nodes n)) h))

-- From one drawing and set to another, over the nodes of D: those lie in both drawings alike, D goes down, and there the first set lies in the second.
module _ (old new : List Node) (old_sound : sound old ≡ true) (new_sound : sound new ≡ true) (s t : List ℕ) (D : ℕ → Bool)
    (alike : (n : ℕ) → D n ≡ true → n < length old → (n < length new) × (at new n ≡ at old n))
    (down : (n f : ℕ) → D n ≡ true → n < length old → In f (fanins (at old n)) → D f ≡ true)
    (into : (u : ℕ) → D u ≡ true → mem u s ≡ true → mem u t ≡ true) where
  carried : (bound n : ℕ) → n < bound → D n ≡ true → closes old s n ≡ true → closes new t n ≡ true
  carried zero n l i h = absurd (omega arith)
  carried (suc bound) n l i h =
      let r = closes_range old s n h in
      let a = alike n i r in
      closes_by new t n new_sound a.0
      (elim (closes_ways old s n old_sound h) [
        | zeroth e ↦ zeroth e
        | member m ↦ member (into n i m)
        | through g f ↦ through (rw a.1 g) (rw a.1 (λ k m. carried bound k (omega (arith, fanins_below_lem old n k old_sound r m)) (down n k i r m) (f k m)))
      ])

  pub closes_carries : (n : ℕ) → D n ≡ true → closes old s n ≡ true → closes new t n ≡ true
  closes_carries n i h = carried (suc n) n (omega arith) i h

-- a larger set closes what a smaller one does, and only members up to n count
pub closes_more : (nodes : List Node) (s t : List ℕ) (n : ℕ) → sound nodes ≡ true → ((u : ℕ) → u ≤ n → mem u s ≡ true → mem u t ≡ true) → closes nodes s n ≡ true → closes nodes t n ≡ true
closes_more nodes s t n d h c =
    closes_carries nodes nodes d d s t (λ u. leb u n) (λ u i l. (l, refl)) (λ u f i l m. le-leb f n (omega (arith, leb-true u n i, fanins_below_lem nodes u f d l m))) (λ u i m. h u (leb-true u n i) m) n (le-leb n n (omega arith)) c

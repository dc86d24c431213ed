-- The choices of a gate's fanins as rows of stored sets, and that what survives of their joins is the gate's list.
use Rattle.std.proofs.Common.{◌≡◌, ℕ, ◌<◌, ◌≤◌, true, false, ◌||◌, List, [], ◌∷◌, length, get_or, sym, refl, ap, ◌∙◌, subst, inl, inr, arith}
use Rattle.std.specs.Prelude.{Option, Some, None, MatchOption, Result, Ok, Err, MatchResult}
use Rattle.std.specs.Borrow.{Bor}
use Rattle.std.specs.Result.{result_ok}
use Rattle.std.proofs.lemmas.List.{length-map}
use Rattle.arrayvec.specs.ArrayVec.{ArrayVec}
use Rattle.drawing.specs.declared.node.Pair.{Pair}
use Rattle.drawing.specs.declared.node.Node.{Node}
use Rattle.drawing.specs.declared.node.Node.TheVariants.{Constant, Input, Gate}
use Rattle.drawing.specs.Sets.{same, elem}
use Rattle.drawing.specs.Drawing.{at, is_gate, is_constant, fanins, node_of, sound}
use Rattle.drawing.proofs.Sound.{fanins_below_lem}
use Rattle.cuts.specs.declared.cut.Cut.{Cut}
use Rattle.cuts.specs.Antichain.{survivors}
use Rattle.cuts.specs.Cuts.{least_cuts, ways, choices, joins, Alike}
use Rattle.cuts.specs.Leaves.{leaves_of, sets_of}
use Rattle.cuts.specs.Limits.{limit, most_cuts}
use Rattle.cuts.specs.Lists.{Lists, AtHand, Made, MadeIn, left_fanin, right_fanin}
use Rattle.cuts.proofs.LeastCuts.{kind_zero}
use Rattle.cuts.proofs.Survive.{survivors_are}

pub above_zero : (nodes : List Node) (f : ℕ) (n : Node) → sound nodes ≡ true → f < length nodes → at nodes f ≡ n → is_constant n ≡ false → 0 < f
above_zero nodes f n d l e h = kind_zero nodes f d l (ap is_constant e ∙ h)

-- the choices of a fanin whose list is at hand, in any order
pub choices_alike : (nodes : List Node) (k f : ℕ) (rows : List Cut) → AtHand nodes k f rows → Alike (ways (sets_of rows) f (at nodes f)) (choices nodes k f)
unfolding choices
choices_alike nodes k f rows h = go (at nodes f) (λ g. (h g).0.0)
  where
    go : (n : Node) → (is_gate n ≡ true → Alike (sets_of rows) (least_cuts nodes k f)) → Alike (ways (sets_of rows) f n) (ways (least_cuts nodes k f) f n)
    go Constant a s = refl
    go Input a s = refl
    go (Gate p) a s = ap (λ b. same s (f ∷ []) || b) (a refl s)

-- the fanins by their literals
left_fanin_lem : (nodes : List Node) (v : ℕ) (p : Pair) → at nodes v ≡ Gate p → left_fanin nodes v ≡ node_of p.left
left_fanin_lem nodes v p e = ap (λ n. get_or (fanins n) 0 0) e

right_fanin_lem : (nodes : List Node) (v : ℕ) (p : Pair) → at nodes v ≡ Gate p → right_fanin nodes v ≡ node_of p.right
right_fanin_lem nodes v p e = ap (λ n. get_or (fanins n) 1 0) e

module _ (nodes : List Node) (v : ℕ) (p : Pair) (d : sound nodes ≡ true) (l : v < length nodes) (e : at nodes v ≡ Gate p) where
  fans : fanins (at nodes v) ≡ node_of p.left ∷ node_of p.right ∷ []
  fans = ap fanins e

  pub left_below : node_of p.left < v
  left_below = fanins_below_lem nodes v _ d l (rw fans (inl refl))

  pub right_below : node_of p.right < v
  right_below = fanins_below_lem nodes v _ d l (rw fans (inr (inl refl)))

  -- the rows are the list
  module _ (k : ℕ) (left right : List Cut) (first : AtHand nodes k (left_fanin nodes v) left) (second : AtHand nodes k (right_fanin nodes v) right) where
    left_alike : Alike (ways (sets_of left) (node_of p.left) (at nodes (node_of p.left))) (choices nodes k (node_of p.left))
    left_alike = choices_alike nodes k (node_of p.left) left (subst (λ f. AtHand nodes k f left) (left_fanin_lem nodes v p e) first)

    right_alike : Alike (ways (sets_of right) (node_of p.right) (at nodes (node_of p.right))) (choices nodes k (node_of p.right))
    right_alike = choices_alike nodes k (node_of p.right) right (subst (λ f. AtHand nodes k f right) (right_fanin_lem nodes v p e) second)

    pub joins_listed : (lefts rights : List (List ℕ)) → lefts ≡ ways (sets_of left) (node_of p.left) (at nodes (node_of p.left)) → rights ≡ ways (sets_of right) (node_of p.right) (at nodes (node_of p.right)) → (rows : List Cut) → sets_of rows ≡ survivors [] (joins k lefts rights) → Lists nodes k v rows
    joins_listed lefts rights a b rows h =
        let kept = survivors_are nodes k v p d l e lefts rights (λ s. ap (elem s) a ∙ left_alike s) (λ s. ap (elem s) b ∙ right_alike s) in
        ((λ s. ap (elem s) h ∙ kept.0 s), sym (length-map rows leaves_of) ∙ ap length h ∙ kept.1)

-- the rows are lent as a list if they are no more than it holds
pub made_in : (nodes : List Node) (k v : ℕ) (rows s : List Cut) → Lists nodes k v rows → s ≡ rows → (r : Option (Bor (List Cut))) → MatchOption r (most_cuts < length s) (λ l. (l.now ≡ s) × (length s ≤ most_cuts)) → MadeIn nodes k v r
made_in nodes k v rows s made e (Some l) h = (omega (arith, ap length h.0, h.1), subst (Lists nodes k v) (sym (h.0 ∙ e)) made)
made_in nodes k v rows s made e None h = omega (arith, ap length e, made.1, h)

-- a list that is no longer than the limit goes into a vector
pub made_from : {E : Type 0} (nodes : List Node) (k v : ℕ) (s : List Cut) → (length s ≤ limit k) × Lists nodes k v s → (r : Result (ArrayVec Cut) E) → MatchResult r (λ l. (l.items ≡ s) × (length s ≤ most_cuts)) (λ e. most_cuts < length s) → Made nodes k v (result_ok r)
made_from nodes k v s m (Ok l) h = (omega (arith, ap length h.0, h.1), subst (Lists nodes k v) (sym h.0) m.1)
made_from nodes k v s m (Err x) h = absurd (omega (arith, m.0, h))

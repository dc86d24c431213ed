-- Comparing two cuts, and what is known of the cuts of a list.
use Rattle.std.proofs.Common.{◌≡◌, ℕ, ◌+◌, ◌-◌, ◌<◌, Bool, true, List, length, get_or, take, drop, Some, refl, sym, ap, ◌∙◌, arith, length-take}
use Rattle.std.specs.Ordering.{is_some_and, is_lt, nat_cmp, partial_ordering_then}
use Rattle.std.specs.Cmp.Lexicographic.{slice_partial_cmp}
use Rattle.std.proofs.lemmas.Bool.Decides.{nat_tests}
use Rattle.std.proofs.lemmas.Grind.{get_or_after_one}
use Rattle.std.proofs.lemmas.List.{get_or-take}
use Rattle.std.proofs.lemmas.Cmp.{same_from_slice_cmp_tested}
use Rattle.drawing.specs.Sets.{below, every}
use Rattle.drawing.proofs.Members.{every_at}
use Rattle.drawing.proofs.Scans.{every_map}
use Rattle.cuts.specs.declared.cut.Cut.{Cut}
use Rattle.cuts.specs.Leaves.{leaves_of, sets_of}
use Rattle.choice.specs.Choice.{lexi, smaller}

-- what `<` answers for two lists is whether the leaf at the first difference is smaller
lexi_tested : (a b : List ℕ) (r : Bool) → r ≡ is_some_and is_lt (slice_partial_cmp (λ x y. Some (nat_cmp x y)) a b) → r ≡ lexi a b
lexi_tested = same_from_slice_cmp_tested nat_cmp is_lt lexi refl (λ _ _. refl) (λ _ _. refl) (λ x y xs ys o h. grind (arith, nat_tests))

-- and for two pairs of the number of leaves and the leaves, whether the one is smaller
pub smaller_tested : (a b : List ℕ) → is_some_and is_lt (partial_ordering_then (Some (nat_cmp (length a) (length b))) (slice_partial_cmp (λ x y. Some (nat_cmp x y)) a b)) ≡ smaller a b
smaller_tested a b = let e = lexi_tested a b _ refl in grind (arith, nat_tests)

-- the sets of a list are all within n, so each behind the first is
pub rest_within : (n : ℕ) (cuts : List Cut) (i : ℕ) (c : Cut) → every (below n) (sets_of cuts) ≡ true → i < length (take (length cuts - 1) (drop 1 cuts)) → c ≡ get_or (take (length cuts - 1) (drop 1 cuts)) i c → below n (leaves_of c) ≡ true
rest_within n cuts i c h l e =
    let b : i < length cuts - 1 = omega (arith, length-take (length cuts - 1) (drop 1 cuts)) in
    let at : get_or (take (length cuts - 1) (drop 1 cuts)) i c ≡ get_or cuts (1 + i) c = get_or-take (length cuts - 1) (drop 1 cuts) i c b ∙ get_or_after_one cuts i c in
    ap (λ z. below n (leaves_of z)) (e ∙ at) ∙ every_at (λ z. below n (leaves_of z)) cuts (1 + i) c (sym (every_map (below n) leaves_of cuts) ∙ h) (omega arith)

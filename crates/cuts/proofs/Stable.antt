-- A gate's list stays as it is where the drawing changes nothing that the gate depends on.
use Rattle.std.proofs.Common.{◌≡◌, ℕ, ◌-◌, ◌<◌, Bool, true, false, not, ◌&&◌, eqb, ltb, ◌≢◌, List, [], ◌∷◌, ◌++◌, length, set, sym, ap, subst, arith}
use mathlib.Core.Path.{fun_ext}
use Rattle.std.specs.List.{range_with_len}
use Rattle.std.proofs.lemmas.Bool.{and_parts, and_from, both_ways, ne_eqb, eqb-false, not-true, not_from_false, ltb-true, lt-ltb}
use Rattle.std.proofs.lemmas.List.{get_or_append_left, get_or-set_other, length-set, length_push}
use Rattle.std.proofs.lemmas.Bool.Decides.{same_from_decides}
use Rattle.drawing.specs.declared.node.Node.{Node}
use Rattle.drawing.specs.declared.node.Node.TheVariants.{Constant}
use Rattle.drawing.specs.Sets.{same, rises, below, keep, some, every, subsets, In}
use Rattle.drawing.specs.Drawing.{at, fanins, sound}
use Rattle.cuts.specs.Cuts.{closes, closes_fanins, cut, least, least_cuts}
use Rattle.drawing.specs.Reach.{depends}
use Rattle.drawing.proofs.Members.{false_by, every_same}
use Rattle.cuts.proofs.Closing.{closes_carries}
use Rattle.drawing.proofs.Sound.{fanins_below_lem}
use Rattle.drawing.proofs.ReachLaws.{depends_direct, depends_through}

module _ (old new : List Node) (old_sound : sound old ≡ true) (new_sound : sound new ≡ true) (D : ℕ → Bool)
    (alike : (n : ℕ) → D n ≡ true → (n < length old) × (n < length new) × (at new n ≡ at old n))
    (down : (n f : ℕ) → D n ≡ true → In f (fanins (at old n)) → D f ≡ true) where
  pub closes_alike : (s : List ℕ) (n : ℕ) → D n ≡ true → closes old s n ≡ closes new s n
  closes_alike s n i =
      same_from_decides {P = closes old s n ≡ true} _ _ ((λ h. h), (λ h. h)) (
        closes_carries new old new_sound old_sound s s D (λ m j l. ((alike m j).0, sym (alike m j).2)) (λ m f j l k. down m f j (rw (alike m j).2 at k)) (λ u j k. k) n i,
        closes_carries old new old_sound new_sound s s D (λ m j l. ((alike m j).1, (alike m j).2)) (λ m f j l k. down m f j k) (λ u j k. k) n i,
      )

  pub list_alike : (k v : ℕ) → D v ≡ true → least_cuts old k v ≡ least_cuts new k v
  unfolding least_cuts least cut closes_fanins
  list_alike k v i =
      let e = (alike v i).2 in
      let h : (s : List ℕ) → every (closes old s) (fanins (at old v)) ≡ every (closes new s) (fanins (at new v)) = λ s.
      rw e (every_same (closes old s) (closes new s) (fanins (at old v)) (λ f m. closes_alike s f (down v f i m))) in
      ap (λ c. let is_cut : List ℕ → Bool = λ s. rises 0 s && below v s && c s in keep (λ s. is_cut s && not (some (λ t. is_cut t && not (same t s)) (subsets (length s) s))) (subsets k (range_with_len 1 (v - 1)))) (fun_ext h)

-- one more node
pub list_push : (nodes : List Node) (n : Node) (k v : ℕ) → sound nodes ≡ true → sound (nodes ++ n ∷ []) ≡ true → v < length nodes → least_cuts nodes k v ≡ least_cuts (nodes ++ n ∷ []) k v
list_push nodes n k v d e l =
    list_alike nodes (nodes ++ n ∷ []) d e (λ u. ltb u (length nodes))
    (λ u i. let b = ltb-true u (length nodes) i in (b, omega (arith, length_push nodes n), get_or_append_left nodes (n ∷ []) Constant u b))
    (λ u f i m. let b = ltb-true u (length nodes) i in lt-ltb f (length nodes) (omega (arith, fanins_below_lem nodes u f d b m)))
    k v (lt-ltb v (length nodes) l)

-- a gate tied anew: what is neither that gate nor depends on it keeps its list
pub list_retie : (nodes : List Node) (g : ℕ) (n : Node) (k v : ℕ) → sound nodes ≡ true → sound (set nodes g n) ≡ true → v < length nodes → v ≢ g → depends nodes g v ≡ false → least_cuts nodes k v ≡ least_cuts (set nodes g n) k v
list_retie nodes g n k v d e l ne nd =
    let D : ℕ → Bool = λ u. ltb u (length nodes) && (not (eqb u g) && not (depends nodes g u)) in
    let parts : (u : ℕ) → D u ≡ true → (u < length nodes) × (u ≢ g) × (depends nodes g u ≡ false) = λ u i.
    let p = and_parts (ltb u (length nodes)) _ i in
    let q = and_parts (not (eqb u g)) _ p.1 in
    (ltb-true u (length nodes) p.0, eqb-false u g (not-true _ q.0), not-true _ q.1) in
    let build : (u : ℕ) → u < length nodes → u ≢ g → depends nodes g u ≡ false → D u ≡ true = λ u a b c.
    and_from _ _ (lt-ltb u (length nodes) a) (and_from _ _ (not_from_false _ (ne_eqb u g b)) (not_from_false _ c)) in
    list_alike nodes (set nodes g n) d e D
    (λ u i. let p = parts u i in (p.0, omega (arith, p.0, length-set nodes g n), get_or-set_other nodes g u n Constant p.1))
    (λ u f i m. let p = parts u i in
    build f (omega (arith, fanins_below_lem nodes u f d p.0 m, p.0))
    (λ x. both_ways _ p.2 (subst (λ z. depends nodes z u ≡ true) x (depends_direct nodes d u f p.0 m)))
    (false_by _ (λ x. both_ways _ p.2 (depends_through nodes d g u f p.0 m x))))
    k v (build v l ne nd)

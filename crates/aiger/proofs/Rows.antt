-- The lines of a list of nodes after one node is set, and how many there are.
use Rattle.std.proofs.Common.{◌≡◌, ℕ, zero, suc, ◌+◌, ◌<◌, ◌≤◌, true, false, ◌&&◌, eqb, ltb, List, [], ◌∷◌, ◌++◌, length, get_or, take, set, sym, refl, ap, ◌∙◌, subst, ⊎_elim, append_assoc, append-nil, arith}
use Rattle.std.proofs.lemmas.List.{get_or-set_same, get_or-set_other, take_more, length-take-le}
use Rattle.std.proofs.lemmas.Bool.{cases_eq, and_parts, and_from, ltb-true, lt-ltb, ne_eqb, both_ways}
use Rattle.drawing.specs.declared.node.Node.{Node}
use Rattle.drawing.specs.declared.node.Node.TheVariants.{Constant, Input, Gate}
use Rattle.drawing.specs.Drawing.{node_of, sound_at}
use Rattle.aiger.specs.Text.{input_row, gate_row, rows}

-- a fact of each node, after node i is set
pub over_set : (P : ℕ → Node → Type 0) (ns : List Node) (i : ℕ) (x : Node) → i < length ns → P i x → (j : ℕ) → ((j ≡ i → ⊥) → P j (get_or ns j Constant)) → P j (get_or (set ns i x) j Constant)
over_set P ns i x lt here j other =
    ⊎_elim
    (λ e. let g : get_or (set ns i x) j Constant ≡ x = ap (λ k. get_or (set ns i x) k Constant) e ∙ get_or-set_same ns i x Constant lt in subst (λ y. P j y) (sym g) (subst (λ k. P k x) (sym e) here))
    (λ ne. subst (λ y. P j y) (sym (get_or-set_other ns i j x Constant ne)) (other ne))
    (cases_eq j i)

module _ (f : ℕ → Node → List (List ℕ)) where
  pub rows_none : (n : ℕ) (ns : List Node) → ((j m : ℕ) → m ≡ n + j → f m (get_or ns j Constant) ≡ []) → rows f n ns ≡ []
  rows_none n [] h = refl
  rows_none n (x ∷ xs) h =
      let one : f n x ≡ [] = h 0 n (omega arith) in
      let more = rows_none (suc n) xs (λ j m e. h (suc j) m (omega arith)) in
      λ i. one i ++ more i

  -- the line of a node past all lines comes last
  pub rows_put : (n : ℕ) (ns : List Node) (i : ℕ) (x : Node) → i < length ns → ((j m : ℕ) → m ≡ n + j → i ≤ j → f m (get_or ns j Constant) ≡ []) → (m : ℕ) → m ≡ n + i → rows f n (set ns i x) ≡ rows f n ns ++ f m x
  rows_put n [] i x lt clear m e = absurd (omega arith)
  rows_put n (y ∷ ys) zero x lt clear m e =
      let none = rows_none (suc n) ys (λ j m e. clear (suc j) m (omega arith) (omega arith)) in
      let pos : f n y ≡ [] = clear 0 n (omega arith) (omega arith) in
      let same : m ≡ n = omega arith in
      ap (λ l. f n x ++ l) none ∙ append-nil (f n x) ∙ sym (λ i. (pos i ++ none i) ++ f (same i) x)
  rows_put n (y ∷ ys) (suc i) x lt clear m e =
      ap (λ l. f n y ++ l) (rows_put (suc n) ys i x (omega arith) (λ j m e h. clear (suc j) m (omega arith) (omega arith)) m (omega arith))
      ∙ sym (append_assoc (f n y) (rows f (suc n) ys) (f m x))

  -- a node with the same line in its place changes nothing
  pub rows_keep : (n : ℕ) (ns : List Node) (i : ℕ) (x : Node) → ((m : ℕ) → m ≡ n + i → f m (get_or ns i Constant) ≡ f m x) → rows f n (set ns i x) ≡ rows f n ns
  rows_keep n [] i x same = refl
  rows_keep n (y ∷ ys) zero x same = ap (λ l. l ++ rows f (suc n) ys) (sym (same n (omega arith)))
  rows_keep n (y ∷ ys) (suc i) x same =
      ap (λ l. f n y ++ l) (rows_keep (suc n) ys i x (λ m e. same m (omega arith)))

-- nodes with no line
abbrev pub plain : List Node → ℕ
plain [] = 0
plain (Constant ∷ ns) = suc (plain ns)
plain (Input ∷ ns) = plain ns
plain (Gate p ∷ ns) = plain ns

pub rows_count : (n : ℕ) (ns : List Node) → length ns ≡ plain ns + (length (rows input_row n ns) + length (rows gate_row n ns))
rows_count n [] = refl
rows_count n (Constant ∷ ns) = let h = rows_count (suc n) ns in omega arith
rows_count n (Input ∷ ns) = let h = rows_count (suc n) ns in omega arith
rows_count n (Gate p ∷ ns) = let h = rows_count (suc n) ns in omega arith

pub plain_none : (ns : List Node) → plain ns ≡ 0 → (j : ℕ) → j < length ns → get_or ns j Constant ≡ Constant → ⊥
plain_none [] z j lt e = omega arith
plain_none (Constant ∷ ns) z j lt e = omega arith
plain_none (Input ∷ ns) z zero lt e = let w : ◌≡◌ {A = ℕ} 0 1 = cc in omega arith
plain_none (Input ∷ ns) z (suc j) lt e = plain_none ns z j (omega arith) e
plain_none (Gate p ∷ ns) z zero lt e = let w : ◌≡◌ {A = ℕ} 0 1 = cc in omega arith
plain_none (Gate p ∷ ns) z (suc j) lt e = plain_none ns z j (omega arith) e

-- What a sound node is.

-- node n, other than node 0: an input, or a gate over nodes below it
abbrev pub Stands : ℕ → Node → Type 0
Stands n Constant = ⊥
Stands n Input = Unit {0}
Stands n (Gate p) = (node_of p.left < n) × (node_of p.right < n)

pub stands_sound : (n : ℕ) (x : Node) → 0 < n → Stands n x → sound_at n x ≡ true
stands_sound n Constant l h = absurd h
stands_sound n Input l h = let e : eqb n 0 ≡ false = ne_eqb n 0 (omega arith) in rw e refl
stands_sound n (Gate p) l h =
    let e : eqb n 0 ≡ false = ne_eqb n 0 (omega arith) in
    rw e (and_from _ _ refl (and_from _ _ (lt-ltb _ _ h.0) (and_from _ _ (lt-ltb _ _ h.1) refl)))

pub sound_stands : (n : ℕ) (x : Node) → 0 < n → sound_at n x ≡ true → Stands n x
sound_stands n Constant l h = let e : eqb n 0 ≡ false = ne_eqb n 0 (omega arith) in absurd (both_ways false refl (rw e at h))
sound_stands n Input l h = tt
sound_stands n (Gate p) l h =
    let q = and_parts (ltb (node_of p.left) n) (ltb (node_of p.right) n && true) (and_parts _ _ h).1 in
    (ltb-true _ _ q.0, ltb-true _ _ (and_parts _ _ q.1).0)

-- One node more.

rows_push : (f : ℕ → Node → List (List ℕ)) (n : ℕ) (xs : List Node) (x : Node) (m : ℕ) → m ≡ n + length xs → rows f n (xs ++ x ∷ []) ≡ rows f n xs ++ f m x
rows_push f n [] x m e = append-nil (f n x) ∙ ap (λ k. f k x) (let h : n ≡ m = omega arith in h)
rows_push f n (y ∷ ys) x m e =
    ap (λ l. f n y ++ l) (rows_push f (suc n) ys x m (omega arith)) ∙ sym (append_assoc (f n y) (rows f (suc n) ys) (f m x))

pub rows_more : (f : ℕ → Node → List (List ℕ)) (ns : List Node) (k : ℕ) (d : Node) → k < length ns → rows f 0 (take (k + 1) ns) ≡ rows f 0 (take k ns) ++ f k (get_or ns k d)
rows_more f ns k d lt =
    ap (rows f 0) (take_more ns k d lt) ∙ rows_push f 0 (take k ns) (get_or ns k d) k (omega (arith, length-take-le k ns (omega arith)))

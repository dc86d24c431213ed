-- A column's laws: its length, each entry by those below it, and that a longer drawing leaves them.
use Rattle.std.proofs.Common.{◌≡◌, ℕ, zero, suc, ◌+◌, ◌<◌, ◌≤◌, List, [], ◌∷◌, ◌++◌, length, get_or, take, drop, set, sym, refl, ap, ◌∙◌, arith}
use Rattle.std.proofs.lemmas.List.{append_assoc, length_push, get_or_at, take_at, length-take-le, append-nil, take-append-drop, take_more, take_more_set}
use Rattle.drawing.specs.Column.{extend, column}

module _ {N X : Type 0} (step : List X → N → X) where
  -- what is done stays in front
  pub extend_front : (done : List X) (ns : List N) → (rest : List X) × (extend step done ns ≡ done ++ rest)
  extend_front done [] = ([], sym (append-nil done))
  extend_front done (n ∷ ns) =
      let r = extend_front (done ++ step done n ∷ []) ns in
      (step done n ∷ r.0, r.1 ∙ append_assoc done (step done n ∷ []) r.0)

  pub length_extend : (done : List X) (ns : List N) → length (extend step done ns) ≡ length done + length ns
  length_extend done [] = omega arith
  length_extend done (n ∷ ns) = omega (arith, length_extend (done ++ step done n ∷ []) ns, length_push done (step done n))

  pub length_column : (ns : List N) → length (column step ns) ≡ length ns
  length_column ns = omega (arith, length_extend [] ns)

  extend_at : (done : List X) (ns : List N) (i v : ℕ) (d : X) (e : N) → length done + i ≡ v → i < length ns → get_or (extend step done ns) v d ≡ step (take v (extend step done ns)) (get_or ns i e)
  extend_at done [] i v d e h l = absurd (omega arith)
  extend_at done (n ∷ ns) zero v d e h l =
      let s = step done n in
      let r = extend_front (done ++ s ∷ []) ns in
      let a = r.1 ∙ append_assoc done (s ∷ []) r.0 in
      let w : length done ≡ v = omega arith in
      rw (a, get_or_at done s r.0 d v w, take_at done (s ∷ r.0) v w)
  extend_at done (n ∷ ns) (suc i) v d e h l =
      extend_at (done ++ step done n ∷ []) ns i v d e (omega (arith, length_push done (step done n))) (omega arith)

  -- THE LAW: an entry is worked out from the node and the entries below
  pub column_at : (ns : List N) (v : ℕ) (d : X) (e : N) → v < length ns → get_or (column step ns) v d ≡ step (take v (column step ns)) (get_or ns v e)
  column_at ns v d e l = extend_at [] ns v v d e (omega arith) l

  pub length_lower : (ns : List N) (v : ℕ) → v ≤ length ns → length (take v (column step ns)) ≡ v
  length_lower ns v l = length-take-le v (column step ns) (omega (arith, length_column ns))

  -- a longer drawing has the same entries in front
  extend_append : (done : List X) (ns ms : List N) → extend step done (ns ++ ms) ≡ extend step (extend step done ns) ms
  extend_append done [] ms = refl
  extend_append done (n ∷ ns) ms = extend_append (done ++ step done n ∷ []) ns ms

  pub column_push : (ns : List N) (n : N) → column step (ns ++ n ∷ []) ≡ column step ns ++ step (column step ns) n ∷ []
  column_push ns n = extend_append [] ns (n ∷ [])

  -- the front of a column is the column of the front
  pub column_take : (ns : List N) (v : ℕ) → v ≤ length ns → column step (take v ns) ≡ take v (column step ns)
  column_take ns v l =
      let e = extend_append [] (take v ns) (drop v ns) in
      let r = extend_front (column step (take v ns)) (drop v ns) in
      let len : length (column step (take v ns)) ≡ v = length_column (take v ns) ∙ length-take-le v ns l in
      let whole : column step ns ≡ column step (take v ns) ++ r.0 = ap (column step) (sym (take-append-drop v ns)) ∙ e ∙ r.1 in
      sym (ap (take v) whole ∙ take_at (column step (take v ns)) r.0 v len)

  -- a loop's step: one entry more behind those that are filled
  pub column_more : (ns : List N) (xs : List X) (v : ℕ) (e : N) (x : X) → v < length ns → v < length xs → take v xs ≡ column step (take v ns) → x ≡ step (take v xs) (get_or ns v e) → take (v + 1) (set xs v x) ≡ column step (take (v + 1) ns)
  column_more ns xs v e x l k front is =
      let a = take_more_set xs v x k in
      let b = take_more ns v e l in
      let c = column_push (take v ns) (get_or ns v e) in
      cc

-- two steps that agree on what comes up make one column
module _ {N X : Type 0} (f g : List X → N → X) (e : N) where
  extend_same : (done : List X) (ns : List N) → ((i : ℕ) → i < length ns → f (extend f done (take i ns)) (get_or ns i e) ≡ g (extend f done (take i ns)) (get_or ns i e)) → extend f done ns ≡ extend g done ns
  extend_same done [] h = refl
  extend_same done (n ∷ ns) h =
      let a = h 0 (omega arith) in
      extend_same (done ++ f done n ∷ []) ns (λ i l. h (suc i) (omega arith)) ∙ ap (λ x. extend g (done ++ x ∷ []) ns) a

  pub column_same : (ns : List N) → ((v : ℕ) → v < length ns → f (take v (column f ns)) (get_or ns v e) ≡ g (take v (column f ns)) (get_or ns v e)) → column f ns ≡ column g ns
  column_same ns h = extend_same [] ns (λ i l. rw (column_take f ns i (omega arith)) (h i l))

-- The words of the leaves, each in the place of its node.
use Rattle.std.proofs.Common.{◌≡◌, ℕ, zero, suc, ◌/◌, ◌%◌, ◌<◌, cond, eqb, List, [], ◌∷◌, ◌++◌, length, get_or, set, replicate, Option, Some, None, sym, refl, ap, ◌∙◌, ⊎_elim}
use Rattle.std.specs.Option.{option_or}
use Rattle.std.proofs.lemmas.List.{get_or-set_same, get_or-set_other}
use Rattle.std.proofs.lemmas.Bool.{cases_eq, cond-true, cond-false, eq-eqb, ne_eqb}
use Rattle.drawing.specs.Values.{lookup}
use Rattle.cells.specs.Limits.{table_bits}
use Rattle.cells.specs.Truth.{bit, leaf_bits, pinned}
use Rattle.cells.proofs.Words.{bit_first, bit_half}

-- one leaf more behind the others
leaf_behind : (ls : List ℕ) (l m n d : ℕ) → lookup (leaf_bits (ls ++ l ∷ []) m) n d ≡ lookup (leaf_bits ls m) n (cond (eqb l n) (bit m (length ls)) d)
leaf_behind [] l m n d = ap (λ x. cond (eqb l n) x d) (sym (bit_first m))
leaf_behind (x ∷ ls) l m n d =
    ap (cond (eqb x n) (m % 2)) (leaf_behind ls l (m / 2) n d ∙ ap (λ b. lookup (leaf_bits ls (m / 2)) n (cond (eqb l n) b d)) (bit_half m (length ls)))

-- the first leaves are in their places
abbrev pub Pinned : List (Option ℕ) → List ℕ → Type 0
Pinned pins ls = (m node d : ℕ) → m < table_bits → pinned (get_or pins node None) m d ≡ lookup (leaf_bits ls m) node d

no_pin : (n k : ℕ) → get_or {A = Option ℕ} (replicate n None) k None ≡ None
no_pin zero k = refl
no_pin (suc n) zero = refl
no_pin (suc n) (suc k) = no_pin n k

pub no_pins : (n : ℕ) → Pinned (replicate n None) []
no_pins n m node d h = ap (λ o. pinned o m d) (no_pin n node)

or_pinned : (o : Option ℕ) (w m d b : ℕ) → bit w m ≡ b → pinned (option_or o (Some w)) m d ≡ pinned o m b
or_pinned None w m d b e = e
or_pinned (Some v) w m d b e = refl

-- one leaf more keeps its first word
pub pin_more : (pins : List (Option ℕ)) (ls : List ℕ) (l w : ℕ) (r : Option ℕ) → Pinned pins ls → l < length pins → r ≡ option_or (get_or pins l None) (Some w) → ((m : ℕ) → m < table_bits → bit w m ≡ bit m (length ls)) → Pinned (set pins l r) (ls ++ l ∷ [])
pin_more pins ls l w r held there is b m node d h =
    let x : ℕ = cond (eqb l node) (bit m (length ls)) d in
    ⊎_elim
    (λ (q : l ≡ node).
    let k : get_or (set pins l r) node None ≡ r = ap (λ j. get_or (set pins l r) j None) (sym q) ∙ get_or-set_same pins l r None there in
    let n : get_or pins l None ≡ get_or pins node None = ap (λ j. get_or pins j None) q in
    let y : bit w m ≡ x = b m h ∙ sym (cond-true (eqb l node) (bit m (length ls)) d (eq-eqb l node q)) in
    ap (λ o. pinned o m d) (k ∙ is) ∙ or_pinned (get_or pins l None) w m d x y ∙ ap (λ o. pinned o m x) n
    ∙ held m node x h ∙ sym (leaf_behind ls l m node d))
    (λ (q : l ≡ node → ⊥).
    ap (λ o. pinned o m d) (get_or-set_other pins l node r None (λ z. q (sym z)))
    ∙ held m node d h ∙ ap (lookup (leaf_bits ls m) node) (sym (cond-false (eqb l node) (bit m (length ls)) d (ne_eqb l node q))) ∙ sym (leaf_behind ls l m node d))
    (cases_eq l node)

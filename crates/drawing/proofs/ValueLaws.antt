-- Values are 0 or 1: of lists that are written, of literals, and of the nodes of a drawing.
use Rattle.std.proofs.Common.{◌≡◌, ℕ, zero, suc, ◌-◌, ◌%◌, ◌≤◌, true, false, eqb, List, [], ◌∷◌, ◌++◌, length, get_or, replicate, refl, ap, ◌∙◌, arith}
use Rattle.std.proofs.lemmas.Nat.{and_le_l}
use Rattle.std.proofs.lemmas.Bool.{cond_both, both_ways}
use Rattle.drawing.specs.declared.node.Node.{Node}
use Rattle.drawing.specs.declared.node.Node.TheVariants.{Constant, Input, Gate}
use Rattle.drawing.specs.Column.{extend, column}
use Rattle.drawing.specs.Drawing.{at, node_of, sound_at, sound}
use Rattle.drawing.proofs.ColumnLaws.{column_at}
use Rattle.drawing.proofs.Sound.{sound_at_lem, sound_some}
use Rattle.drawing.specs.Values.{Binary, turned, literal, valuing, inputs_of, lookup, bound, values}

pub binary_none : Binary []
binary_none k = omega arith

pub binary_zeros : (n : ℕ) → Binary (replicate n 0)
binary_zeros zero k = omega arith
binary_zeros (suc n) zero = omega arith
binary_zeros (suc n) (suc k) = binary_zeros n k

pub binary_cons : (v : ℕ) (vs : List ℕ) → v ≤ 1 → Binary vs → Binary (v ∷ vs)
binary_cons v vs h b zero = h
binary_cons v vs h b (suc k) = b k

pub binary_push : (vs : List ℕ) (v : ℕ) → Binary vs → v ≤ 1 → Binary (vs ++ v ∷ [])
binary_push [] v b h zero = h
binary_push [] v b h (suc k) = omega arith
binary_push (x ∷ vs) v b h zero = b 0
binary_push (x ∷ vs) v b h (suc k) = binary_push vs v (λ j. b (suc j)) h k

-- a column whose step gives 0 or 1
module _ {N : Type 0} (step : List ℕ → N → ℕ) (small : (lower : List ℕ) (n : N) → Binary lower → step lower n ≤ 1) where
  binary_extend : (done : List ℕ) (ns : List N) → Binary done → Binary (extend step done ns)
  binary_extend done [] b = b
  binary_extend done (n ∷ ns) b = binary_extend (done ++ step done n ∷ []) ns (binary_push done _ b (small done n b))

  pub binary_column : (ns : List N) → Binary (column step ns)
  binary_column ns = binary_extend [] ns binary_none

pub turned_small : (v l : ℕ) → v ≤ 1 → turned v l ≤ 1
turned_small v l h = cond_both (eqb (l % 2) 0) v (1 - v) (λ x. x ≤ 1) (λ _. h) (λ _. omega arith)

pub literal_small : (vs : List ℕ) (l : ℕ) → Binary vs → literal vs l ≤ 1
literal_small vs l b = turned_small (get_or vs (node_of l) 0) l (b (node_of l))

pub valuing_small : (given : ℕ → ℕ) → ((n : ℕ) → given n ≤ 1) → (lower : List ℕ) (node : Node) → Binary lower → valuing given lower node ≤ 1
valuing_small given g lower Constant b = omega arith
valuing_small given g lower Input b = g (length lower)
valuing_small given g lower (Gate p) b = omega (arith, and_le_l (literal lower p.left) (literal lower p.right), literal_small lower p.left b)

pub bound_small : (ns vs : List ℕ) (n d : ℕ) → Binary vs → d ≤ 1 → lookup (bound ns vs) n d ≤ 1
bound_small [] vs n d b h = h
bound_small (m ∷ ns) [] n d b h = h
bound_small (m ∷ ns) (v ∷ vs) n d b h =
    cond_both (eqb m n) v (lookup (bound ns vs) n d) (λ x. x ≤ 1) (λ _. b 0) (λ _. bound_small ns vs n d (λ k. b (suc k)) h)

pub values_small : (nodes : List Node) (row : List ℕ) → Binary row → Binary (values nodes row)
values_small nodes row b =
    let given : ℕ → ℕ = λ n. lookup (bound (inputs_of nodes) row) n 0 in
    binary_column (valuing given) (λ lower n c. valuing_small given (λ k. bound_small (inputs_of nodes) row k 0 b (omega arith)) lower n c) nodes

-- node 0 is the constant, and has the value 0
constant_first : (n : Node) → sound_at 0 n ≡ true → n ≡ Constant
constant_first Constant h = refl
constant_first Input h = absurd (both_ways false refl h)
constant_first (Gate p) h = absurd (both_ways false refl h)

pub first_constant : (nodes : List Node) → sound nodes ≡ true → at nodes 0 ≡ Constant
first_constant nodes d = constant_first (at nodes 0) (sound_at_lem nodes 0 d (sound_some nodes d))

pub first_value : (given : ℕ → ℕ) (nodes : List Node) → sound nodes ≡ true → get_or (column (valuing given) nodes) 0 0 ≡ 0
first_value given nodes d = column_at (valuing given) nodes 0 0 Constant (sound_some nodes d) ∙ ap (valuing given []) (first_constant nodes d)

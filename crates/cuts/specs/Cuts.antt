-- Closing sets, cuts, least cuts and the list of a gate.
use Rattle.std.specs.Prelude.{◌≡◌, ℕ, ◌-◌, Bool, false, not, ◌&&◌, ◌||◌, List, [], ◌∷◌, ◌++◌, map, length, get_or, ◌==◌, nat_le, slice_index_or}
use Rattle.std.specs.List.{range_with_len}
use Rattle.drawing.specs.declared.node.Node.{Node}
use Rattle.drawing.specs.declared.node.Node.TheVariants.{Constant, Input, Gate}
use Rattle.drawing.specs.Sets.{mem, sub, rises, below, same, union, keep, some, every, subsets, elem}
use Rattle.drawing.specs.Column.{column}
use Rattle.drawing.specs.Drawing.{at, is_gate, fanins}

-- A set closes node n when n is 0, or n is in the set, or n is a gate and the set closes the nodes of both its literals.
abbrev pub closing : List ℕ → List Bool → Node → Bool
closing s lower node =
    (length lower == 0) || mem (length lower) s || (is_gate node && every (λ f. get_or lower f false) (fanins node))

-- the set closes node n
unfoldable pub closes : List Node → List ℕ → ℕ → Bool
closes nodes s n = slice_index_or (column (closing s) nodes) n false

-- the set closes the nodes of both literals of v
unfoldable pub closes_fanins : List Node → ℕ → List ℕ → Bool
closes_fanins nodes v s = every (closes nodes s) (fanins (at nodes v))

-- A cut of the gate v: inputs and gates below v that close the nodes of both its literals. Every node above 0 is an input or a gate.
unfoldable pub cut : List Node → ℕ → List ℕ → Bool
cut nodes v s = rises 0 s && below v s && closes_fanins nodes v s

-- a least cut of v: a cut of v of which no proper subset is a cut of v
unfoldable pub least : List Node → ℕ → List ℕ → Bool
least nodes v s = cut nodes v s && not (some (λ t. cut nodes v t && not (same t s)) (subsets (length s) s))

-- the list of v: its least cuts with at most k leaves
unfoldable pub least_cuts : List Node → ℕ → ℕ → List (List ℕ)
least_cuts nodes k v = keep (least nodes v) (subsets k (range_with_len 1 (v - 1)))

-- the choices at node f by its kind, where `own` is its list: the empty set for the constant, f itself for an input,
-- f itself or a set of `own` for a gate
abbrev pub ways : List (List ℕ) → ℕ → Node → List (List ℕ)
ways own f Constant = [] ∷ []
ways own f Input = (f ∷ []) ∷ []
ways own f (Gate p) = (f ∷ []) ∷ own

-- the choices at a node: no leaves for node 0, the node itself for an input, the node itself or a cut of its list for a gate
unfoldable pub choices : List Node → ℕ → ℕ → List (List ℕ)
choices nodes k f = ways (least_cuts nodes k f) f (at nodes f)

-- the union of each of the first sets with each of the second
abbrev pub unions : List (List ℕ) → List (List ℕ) → List (List ℕ)
unions [] bs = []
unions (a ∷ rest) bs = map (union a) bs ++ unions rest bs

-- the sets of the list with no other of the list inside
abbrev pub minimal : List (List ℕ) → List (List ℕ)
minimal sets = keep (λ s. not (some (λ t. sub t s && not (same t s)) sets)) sets

-- the unions with at most k leaves
abbrev pub joins : ℕ → List (List ℕ) → List (List ℕ) → List (List ℕ)
joins k lefts rights = keep (λ s. nat_le (length s) k) (unions lefts rights)

-- the joins of the choices at two nodes, with at most k leaves
unfoldable pub joined : List Node → ℕ → ℕ → ℕ → List (List ℕ)
joined nodes k f g = joins k (choices nodes k f) (choices nodes k g)

-- two lists have the same sets, in any order
abbrev pub Alike : List (List ℕ) → List (List ℕ) → Type 0
Alike xs ys = (s : List ℕ) → elem s xs ≡ elem s ys

-- What is reached downwards: what a node depends on, and which gates are needed.
use Rattle.std.specs.Prelude.{ℕ, Bool, false, ◌&&◌, ◌||◌, List, length, ◌==◌, slice_index_or}
use Rattle.std.specs.List.{range_with_len}
use Rattle.drawing.specs.declared.node.Node.{Node}
use Rattle.drawing.specs.Sets.{some}
use Rattle.drawing.specs.Column.{column}
use Rattle.drawing.specs.Drawing.{at, node_of, is_gate, fanins}

-- u is reached from v downwards by edges in one step or more, by what is known of the nodes below v
abbrev pub reaching : (ℕ → List ℕ) → ℕ → List Bool → ℕ → Bool
reaching edges u lower v = some (λ f. (f == u) || slice_index_or lower f false) (edges v)

-- node u is reached from node v downwards by edges in one step or more, in a drawing of this size
unfoldable pub reach : (ℕ → List ℕ) → ℕ → ℕ → ℕ → Bool
reach edges size u v = slice_index_or (column (reaching edges u) (range_with_len 0 size)) v false

-- v depends on u: reached downwards through literals
abbrev pub depends : List Node → ℕ → ℕ → Bool
depends nodes u v = reach (λ w. fanins (at nodes w)) (length nodes) u v

-- some output reaches u: it names u, or u is reached from the node that it names
abbrev pub reach_out : (ℕ → List ℕ) → ℕ → List ℕ → ℕ → Bool
reach_out edges size outs u = some (λ o. (node_of o == u) || reach edges size u (node_of o)) outs

-- a gate is needed when some output depends on it
abbrev pub needed : List Node → List ℕ → ℕ → Bool
needed nodes outs v = is_gate (at nodes v) && reach_out (λ w. fanins (at nodes w)) (length nodes) outs v

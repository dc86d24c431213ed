-- Marks at nodes, and the marks of what the outputs reach downwards.
use Rattle.std.specs.Prelude.{◌≡◌, ℕ, Bool, true, false, cond, List, [], ◌∷◌, slice_index_or, slice_set}
use Rattle.drawing.specs.declared.node.Node.{Node}
use Rattle.drawing.specs.Drawing.{at, is_gate}
use Rattle.drawing.specs.Reach.{reach_out}

-- the marks, and one more at each of those nodes
abbrev pub mark_all : List Bool → List ℕ → List Bool
mark_all marks [] = marks
mark_all marks (u ∷ us) = mark_all (slice_set marks u true) us

-- marked is exactly what the outputs reach by the edges
abbrev pub Marks : (ℕ → List ℕ) → ℕ → List ℕ → List Bool → Type 0
Marks edges size outs marks = (v : ℕ) → slice_index_or marks v false ≡ reach_out edges size outs v

-- from a node to the leaves of its cut if it is a gate, and else to none
abbrev pub leaves_at : Node → List ℕ → List ℕ
leaves_at node s = cond (is_gate node) s []

-- from a gate to the leaves of the cut that stands at its number
abbrev pub edges_by : List Node → List (List ℕ) → ℕ → List ℕ
edges_by nodes sets v = leaves_at (at nodes v) (slice_index_or sets v [])

-- The drawing: its nodes and outputs, and which drawings are lawful.
use Rattle.std.specs.Prelude.{ℕ, ◌/◌, Bool, true, false, ◌&&◌, ltb, List, [], ◌∷◌, length, ◌==◌, nat_le, nat_lt, slice_index_or}
use Rattle.std.specs.Bool.{beq}
use Rattle.std.specs.List.{range_with_len}
use Rattle.drawing.specs.declared.node.Node.{Node}
use Rattle.drawing.specs.declared.node.Node.TheVariants.{Constant, Input, Gate}
use Rattle.drawing.specs.Sets.{every}

-- a drawing: its nodes by number, node 0 first, and the literals of its outputs in their order
pub record Drawing : Type 0 where
  pub nodes : List Node
  pub outputs : List ℕ

-- the drawing with these nodes and outputs
abbrev pub drawing : List Node → List ℕ → Drawing
drawing nodes outputs = record { nodes = nodes; outputs = outputs }

-- the most nodes that a drawing has, node 0 included
abbrev pub most_nodes : ℕ
most_nodes = 256

-- the most outputs that a drawing has
abbrev pub most_outputs : ℕ
most_outputs = 64

-- the most leaves that a cut or a cell has
abbrev pub most_leaves : ℕ
most_leaves = 5

-- the node that a literal names: 2n is node n, and 2n + 1 is its inverse
abbrev pub node_of : ℕ → ℕ
node_of l = l / 2

-- the node with this number
abbrev pub at : List Node → ℕ → Node
at nodes v = slice_index_or nodes v Constant

-- the node is the constant
abbrev pub is_constant : Node → Bool
is_constant Constant = true
is_constant Input = false
is_constant (Gate p) = false

-- the node is an input
abbrev pub is_input : Node → Bool
is_input Constant = false
is_input Input = true
is_input (Gate p) = false

-- the node is a gate
abbrev pub is_gate : Node → Bool
is_gate Constant = false
is_gate Input = false
is_gate (Gate p) = true

-- the fanins of a node: the nodes that a gate's two literals name
abbrev pub fanins : Node → List ℕ
fanins Constant = []
fanins Input = []
fanins (Gate p) = node_of p.left ∷ node_of p.right ∷ []

-- node 0 alone is the constant, and the fanins of node v are below it
abbrev pub sound_at : ℕ → Node → Bool
sound_at v node = beq (is_constant node) (v == 0) && every (λ f. ltb f v) (fanins node)

-- the nodes of a drawing: node 0 is there, and each node is sound at its number
unfoldable pub sound : List Node → Bool
sound nodes = nat_lt 0 (length nodes) && every (λ v. sound_at v (at nodes v)) (range_with_len 0 (length nodes))

-- the literal names a node of the drawing
abbrev pub names : List Node → ℕ → Bool
names nodes l = nat_lt (node_of l) (length nodes)

-- a lawful drawing: sound nodes, outputs that name them, and not too many of either
unfoldable pub lawful : Drawing → Bool
lawful d =
    sound d.nodes && every (names d.nodes) d.outputs
    && nat_le (length d.nodes) most_nodes && nat_le (length d.outputs) most_outputs

-- the drawing of a new job: node 0 alone, and no outputs
abbrev pub new_drawing : Drawing
new_drawing = drawing (Constant ∷ []) []

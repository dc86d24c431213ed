-- The values of nodes and outputs under a row. A value is 0 or 1.
use Rattle.std.specs.Prelude.{ℕ, suc, ◌-◌, ◌%◌, ◌≤◌, cond, List, [], ◌∷◌, map, length, ◌==◌, bit_and, slice_index}
use Rattle.drawing.specs.declared.node.Node.{Node}
use Rattle.drawing.specs.declared.node.Node.TheVariants.{Constant, Input, Gate}
use Rattle.drawing.specs.Column.{column}
use Rattle.drawing.specs.Drawing.{Drawing, node_of}

-- every value of the list is 0 or 1
abbrev pub Binary : List ℕ → Type 0
Binary values = (k : ℕ) → slice_index values k ≤ 1

-- the value of a literal whose node has this value
abbrev pub turned : ℕ → ℕ → ℕ
turned value l = cond (l % 2 == 0) value (1 - value)

-- the value of a literal, by the values of the nodes
abbrev pub literal : List ℕ → ℕ → ℕ
literal values l = turned (slice_index values (node_of l)) l

-- the value of the next node, by those below it: node 0 is 0, an input has the value that it is given, a gate is the AND of its literals
abbrev pub valuing : (ℕ → ℕ) → List ℕ → Node → ℕ
valuing given lower Constant = 0
valuing given lower Input = given (length lower)
valuing given lower (Gate p) = bit_and (literal lower p.left) (literal lower p.right)

-- the numbers of the inputs, rising, where the first node of the list has the number i
abbrev pub inputs_from : ℕ → List Node → List ℕ
inputs_from i [] = []
inputs_from i (Constant ∷ ns) = inputs_from (suc i) ns
inputs_from i (Input ∷ ns) = i ∷ inputs_from (suc i) ns
inputs_from i (Gate p ∷ ns) = inputs_from (suc i) ns

-- the numbers of a drawing's inputs, rising
abbrev pub inputs_of : List Node → List ℕ
inputs_of nodes = inputs_from 0 nodes

-- the first value that the list has for n, or d where it has none
abbrev pub lookup : List (ℕ × ℕ) → ℕ → ℕ → ℕ
lookup [] n d = d
lookup (p ∷ ps) n d = cond (p.0 == n) p.1 (lookup ps n d)

-- numbers, each with its value
abbrev pub bound : List ℕ → List ℕ → List (ℕ × ℕ)
bound [] vs = []
bound (n ∷ ns) [] = []
bound (n ∷ ns) (v ∷ vs) = (n, v) ∷ bound ns vs

-- the values of all nodes under a row, which has one value for each input by rising number
abbrev pub values : List Node → List ℕ → List ℕ
values nodes row = column (valuing (λ n. lookup (bound (inputs_of nodes) row) n 0)) nodes

-- the values of the outputs under a row
abbrev pub output_values : Drawing → List ℕ → List ℕ
output_values d row = map (literal (values d.nodes row)) d.outputs

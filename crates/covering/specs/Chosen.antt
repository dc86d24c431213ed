-- Covers by a choice of gates and a cut for each, and the chosen cover.
use Rattle.std.specs.Prelude.{ℕ, Bool, false, ◌&&◌, List, [], map, length, slice_index_or}
use Rattle.std.specs.List.{range_with_len}
use Rattle.drawing.specs.declared.node.Node.{Node}
use Rattle.drawing.specs.Sets.{keep}
use Rattle.drawing.specs.Drawing.{Drawing, at, is_gate}
use Rattle.drawing.specs.Values.{inputs_of}
use Rattle.family.specs.Family.{Delay}
use Rattle.choice.specs.Choice.{taken_cut, cells}
use Rattle.cells.specs.declared.cell.Cell.{Cell}
use Rattle.cells.specs.Netlist.{Netlist, netlist, cell_of}

-- the cells of these gates, each by the cut that it is given
abbrev pub cells_by : List Node → (ℕ → List ℕ) → List ℕ → List Cell
cells_by nodes given roots = map (λ v. cell_of nodes v (given v)) roots

-- the chosen cover: the drawing's inputs, a cell for each gate that the outputs reach through the cuts taken, and the drawing's outputs
unfoldable pub chosen : {A : Type 0} → Delay A → Drawing → ℕ → Netlist
chosen F d k = netlist (inputs_of d.nodes) (cells_by d.nodes (taken_cut F d.nodes k) (cells F d.nodes k d.outputs)) d.outputs

-- the gates picked below n, by rising number
abbrev pub gates_by : (ℕ → Bool) → ℕ → List ℕ
gates_by picked n = keep picked (range_with_len 0 n)

-- a cover as far as node n, before its outputs: the inputs, and a cell for each gate picked below n
abbrev pub cover_up_to : List Node → (ℕ → Bool) → (ℕ → List ℕ) → ℕ → Netlist
cover_up_to nodes picked given n = netlist (inputs_of nodes) (cells_by nodes given (gates_by picked n)) []

-- the cover of a drawing by any choice: the drawing's inputs, a cell for each gate picked, and the drawing's outputs
unfoldable pub cover_by : Drawing → (ℕ → Bool) → (ℕ → List ℕ) → Netlist
cover_by d picked given = netlist (inputs_of d.nodes) (cells_by d.nodes given (gates_by picked (length d.nodes))) d.outputs

-- v is a gate and is marked
abbrev pub marked_gate : List Node → List Bool → ℕ → Bool
marked_gate nodes marks v = is_gate (at nodes v) && slice_index_or marks v false

-- the set that stands at a node
abbrev pub set_at : List (List ℕ) → ℕ → List ℕ
set_at sets v = slice_index_or sets v []

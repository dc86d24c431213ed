-- The laws of a cover.
use Rattle.std.specs.Prelude.{◌≡◌, ℕ, ◌<◌, Bool, true, not, ◌&&◌, ◌||◌, List, [], ◌∷◌, map, ◌==◌, nat_le}
use Rattle.drawing.specs.Sets.{every, mem, rises, below, In}
use Rattle.drawing.specs.Drawing.{node_of, most_nodes}
use Rattle.cells.specs.declared.cell.Cell.{Cell}
use Rattle.drawing.specs.Drawing.{most_leaves}
use Rattle.cells.specs.Limits.{table_bits}
use Rattle.cells.specs.Truth.{bit, table_bit, filled}
use Rattle.cells.specs.Netlist.{Netlist, leaves_of, plain, root_name}

-- each of these nodes has a name
abbrev pub known : List ℕ → List ℕ → Bool
known names nodes = every (λ n. mem (plain n) names) nodes

-- a cell has no more leaves than it may, and they rise and are known before it; its root is no input, and its table is filled
abbrev pub cell_lawful : List ℕ → List ℕ → Cell → Bool
cell_lawful inputs names c =
    nat_le c.count most_leaves && not (mem c.root inputs) && rises 0 (leaves_of c) && known names (leaves_of c)
    && filled c.count c.table

-- the names that are known after the cells, the newest first
abbrev pub names_after : List ℕ → List Cell → List ℕ
names_after names [] = names
names_after names (c ∷ cs) = names_after (root_name c ∷ names) cs

-- each cell is lawful where the inputs and the earlier roots are known
abbrev pub cells_lawful : List ℕ → List ℕ → List Cell → Bool
cells_lawful inputs names [] = true
cells_lawful inputs names (c ∷ cs) = cell_lawful inputs names c && cells_lawful inputs (root_name c ∷ names) cs

-- an output names node 0, an input or a root
abbrev pub output_lawful : List ℕ → ℕ → Bool
output_lawful names l = node_of l == 0 || mem (plain (node_of l)) names

-- the roots of the cells, in their order
abbrev pub roots_of : Netlist → List ℕ
roots_of n = map (λ c. c.root) n.cells

-- all names of a netlist
abbrev pub names_of : Netlist → List ℕ
names_of n = names_after (map plain n.inputs) n.cells

-- numbers of nodes that rise, from 1 to 255
abbrev pub numbered : List ℕ → Bool
numbered nodes = rises 0 nodes && below most_nodes nodes

-- inputs and roots are numbered, and each cell and each output is lawful
unfoldable pub lawful_cover : Netlist → Bool
lawful_cover n =
    numbered n.inputs && numbered (roots_of n) && cells_lawful n.inputs (map plain n.inputs) n.cells
    && every (output_lawful (names_of n)) n.outputs

-- in a lawful netlist every bit of a cell's table is what its rows make of it
abbrev pub TablesFilled : Type 0
TablesFilled = (n : Netlist) (c : Cell) (m : ℕ) → lawful_cover n ≡ true → In c n.cells → m < table_bits → bit c.table m ≡ table_bit c.count (bit c.table) m

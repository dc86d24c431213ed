-- Netlists of lookup cells: what they hold, and what they answer to a row.
use Rattle.std.specs.Prelude.{ℕ, ◌+◌, ◌*◌, List, [], ◌∷◌, ◌++◌, map, length, take, drop, replicate}
use Rattle.drawing.specs.declared.node.Node.{Node}
use Rattle.drawing.specs.Drawing.{node_of}
use Rattle.drawing.specs.Values.{turned, lookup, bound}
use Rattle.cells.specs.declared.cell.Cell.{Cell}
use Rattle.drawing.specs.Drawing.{most_leaves}
use Rattle.cells.specs.Truth.{bit, table_of}

-- a cell's leaves, by rising number
abbrev pub leaves_of : Cell → List ℕ
leaves_of c = take c.count c.leaves

-- the cell of a gate: its root, its leaves with zeros behind them, and the table of its cone
abbrev pub cell_of : List Node → ℕ → List ℕ → Cell
cell_of nodes root leaves = record {
  root = root;
  count = length leaves;
  leaves = leaves ++ drop (length leaves) (replicate most_leaves 0);
  table = table_of nodes leaves root;
}

-- a netlist: the numbers of its inputs, its cells in order, and the literals of its outputs
pub record Netlist : Type 0 where
  pub inputs : List ℕ
  pub cells : List Cell
  pub outputs : List ℕ

-- the netlist with these parts
abbrev pub netlist : List ℕ → List Cell → List ℕ → Netlist
netlist inputs cells outputs = record { inputs = inputs; cells = cells; outputs = outputs }

-- the netlist with no inputs, no cells and no outputs
abbrev pub empty_netlist : Netlist
empty_netlist = netlist [] [] []

-- the netlist with one input more
abbrev pub with_input : Netlist → ℕ → Netlist
with_input n number = netlist (n.inputs ++ number ∷ []) n.cells n.outputs

-- the netlist with one cell more
abbrev pub with_cell : Netlist → Cell → Netlist
with_cell n cell = netlist n.inputs (n.cells ++ cell ∷ []) n.outputs

-- the netlist with one output more
abbrev pub with_output : Netlist → ℕ → Netlist
with_output n l = netlist n.inputs n.cells (n.outputs ++ l ∷ [])

-- the name of node n: values go by names, which are literals, and an input or a root n is named by its plain literal 2n
abbrev pub plain : ℕ → ℕ
plain n = 2 * n

-- the name that a cell gives a value to
abbrev pub root_name : Cell → ℕ
root_name c = plain c.root

-- the row that the leaves' values make, leaf 0 being its lowest bit
abbrev pub row_of : (ℕ → ℕ) → List ℕ → ℕ
row_of f [] = 0
row_of f (l ∷ ls) = f (plain l) + 2 * row_of f ls

-- a cell has the bit of its table that stands in its leaves' row
abbrev pub cell_value : (ℕ → ℕ) → Cell → ℕ
cell_value f c = bit c.table (row_of f (leaves_of c))

-- the value of a name, 0 where it has none
abbrev pub look : List (ℕ × ℕ) → ℕ → ℕ
look env name = lookup env name 0

-- the values after the cells, the newest first
abbrev pub after : List (ℕ × ℕ) → List Cell → List (ℕ × ℕ)
after env [] = env
after env (c ∷ cs) = after ((root_name c, cell_value (look env) c) ∷ env) cs

-- the values of all names of a netlist under a row, which has one value for each input
abbrev pub settled : Netlist → List ℕ → List (ℕ × ℕ)
settled n row = after (bound (map plain n.inputs) row) n.cells

-- the value of an output, by the values of the names
abbrev pub output_value : (ℕ → ℕ) → ℕ → ℕ
output_value f l = turned (f (plain (node_of l))) l

-- what a netlist answers to a row: the values of its outputs
abbrev pub answers : Netlist → List ℕ → List ℕ
answers n row = map (output_value (look (settled n row))) n.outputs

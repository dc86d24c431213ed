-- How much a cell and a cover hold.
use Rattle.std.specs.Prelude.{ℕ, ◌-◌, ◌*◌, ◌^◌}
use Rattle.drawing.specs.Drawing.{most_nodes, most_leaves}

-- the bits of a cell's table: one for each row of values of the most leaves
abbrev pub table_bits : ℕ
table_bits = 2 ^ most_leaves

-- the most inputs of a cover: every node but node 0
abbrev pub most_inputs : ℕ
most_inputs = most_nodes - 1

-- the most cells of a cover: one for every node but node 0
abbrev pub most_cells : ℕ
most_cells = most_nodes - 1

-- the literals of a drawing are below this
abbrev pub most_literals : ℕ
most_literals = 2 * most_nodes

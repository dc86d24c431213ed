-- The drawing that a table holds.
use Rattle.drawing.specs.declared.table.Table.{Table}
use Rattle.drawing.specs.Drawing.{Drawing, drawing}

-- the nodes and outputs of a table
abbrev pub drawing_of : Table → Drawing
drawing_of t = drawing t.nodes.items t.outputs.items

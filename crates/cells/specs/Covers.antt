-- When a netlist covers a drawing, and that it then has the drawing's values.
use Rattle.std.specs.Prelude.{◌≡◌, ℕ, true, List}
use Rattle.drawing.specs.declared.node.Node.{Node}
use Rattle.drawing.specs.Sets.{In}
use Rattle.drawing.specs.Drawing.{Drawing, sound}
use Rattle.drawing.specs.Values.{Binary, inputs_of, output_values}
use Rattle.cuts.specs.Cuts.{closes}
use Rattle.cells.specs.declared.cell.Cell.{Cell}
use Rattle.cells.specs.Truth.{table_of}
use Rattle.cells.specs.Netlist.{Netlist, leaves_of, answers}
use Rattle.cells.specs.Laws.{lawful_cover}

-- the leaves of a cell close its root, and its table is that of the cone
pub record Suits (nodes : List Node) (c : Cell) : Type 0 where
  pub closing : closes nodes (leaves_of c) c.root ≡ true
  pub table : c.table ≡ table_of nodes (leaves_of c) c.root

-- every cell suits the nodes
abbrev pub AllSuit : List Node → List Cell → Type 0
AllSuit nodes cells = (c : Cell) → In c cells → Suits nodes c

-- the netlist covers the drawing: the nodes are sound, inputs and outputs are the drawing's, and every cell suits
pub record Covers (d : Drawing) (n : Netlist) : Type 0 where
  pub right : sound d.nodes ≡ true
  pub same_inputs : n.inputs ≡ inputs_of d.nodes
  pub same_outputs : n.outputs ≡ d.outputs
  pub suit : AllSuit d.nodes n.cells

-- a lawful netlist that covers a drawing answers every row with the values of the drawing's outputs
abbrev pub CoversAgree : Type 0
CoversAgree = (d : Drawing) (n : Netlist) (row : List ℕ) → lawful_cover n ≡ true → Covers d n → Binary row → answers n row ≡ output_values d row

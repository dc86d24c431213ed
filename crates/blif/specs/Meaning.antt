-- What the cell list means.
use Rattle.std.specs.Prelude.{◌≡◌, ℕ, List, map, length}
use Rattle.std.specs.List.{flat_map}
use Rattle.drawing.specs.Sets.{In}
use Rattle.drawing.specs.Values.{Binary}
use Rattle.cells.specs.Netlist.{Netlist, answers}
use Rattle.blif.specs.Text.{texts}
use Rattle.blif.specs.Reading.{Model, Block, read_model, block_value}

-- all sections, one behind the other
abbrev pub whole_text : Netlist → List ℕ
whole_text n = flat_map (λ text. text) (texts n)

-- the values of names satisfy a model: the output of each block has the block's value
abbrev pub Satisfies : (List ℕ → ℕ) → Model → Type 0
Satisfies value m = (b : Block) → In b m.blocks → value b.out ≡ block_value value b

-- whatever values satisfy the cell list, its outputs have what the netlist answers to its inputs
abbrev pub Means : Netlist → Type 0
Means n = (value : List ℕ → ℕ) → let m = read_model (whole_text n) in Satisfies value m → Binary (map value m.inputs) → map value m.outputs ≡ answers n (map value m.inputs)

-- and every row of values of the inputs has values that satisfy it
abbrev pub HasMeaning : Netlist → Type 0
HasMeaning n = (row : List ℕ) → Binary row → length row ≡ length n.inputs → let m = read_model (whole_text n) in (value : List ℕ → ℕ) × Satisfies value m × (map value m.inputs ≡ row)

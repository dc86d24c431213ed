-- The netlist that a cover holds.
use Rattle.cells.specs.declared.cover.Cover.{Cover}
use Rattle.cells.specs.Netlist.{Netlist, netlist}

-- the inputs, cells and outputs of a cover
abbrev pub netlist_of : Cover → Netlist
netlist_of c =
    netlist c.inputs.items c.cells.items c.outputs.items

-- Worked examples: the sections of a small cover.
use Rattle.std.proofs.Common.{◌≡◌, [], ◌∷◌, codes, refl}
use Rattle.cells.specs.declared.cell.Cell.{Cell}
use Rattle.cells.specs.Netlist.{Netlist, netlist}
use Rattle.blif.specs.Sections.{section_text}

abbrev three : Cell
three = record { root = 5; count = 3; leaves = 1 ∷ 2 ∷ 3 ∷ 0 ∷ 0 ∷ []; table = 130 }

abbrev small : Netlist
small = netlist (1 ∷ 2 ∷ 3 ∷ []) (three ∷ []) (11 ∷ 10 ∷ 0 ∷ 1 ∷ [])

head : section_text small 0 ≡ codes ".model lutmap\n.inputs n1 n2 n3\n.outputs o0 o1 o2 o3\n"
head = refl

cell : section_text small 1 ≡ codes ".names n1 n2 n3 n5\n100 1\n111 1\n"
cell = refl

inverted : section_text small 2 ≡ codes ".names n5 o0\n0 1\n"
inverted = refl

copied : section_text small 3 ≡ codes ".names n5 o1\n1 1\n"
copied = refl

zeroth : section_text small 4 ≡ codes ".names o2\n"
zeroth = refl

first : section_text small 5 ≡ codes ".names o3\n1\n"
first = refl

end : section_text small 6 ≡ codes ".end\n"
end = refl

-- nothing at all
bare : section_text (netlist [] [] []) 0 ≡ codes ".model lutmap\n.inputs\n.outputs\n"
bare = refl

-- a cell without leaves
leafless : section_text (netlist [] (record { root = 1; count = 0; leaves = 0 ∷ 0 ∷ 0 ∷ 0 ∷ 0 ∷ []; table = 1 } ∷ []) []) 1 ≡ codes ".names n1\n1\n"
leafless = refl

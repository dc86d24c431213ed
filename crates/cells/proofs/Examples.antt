-- Worked examples: tables, and what a netlist answers.
use Rattle.std.proofs.Common.{◌≡◌, ℕ, List, [], ◌∷◌, refl}
use Rattle.drawing.specs.declared.node.Node.{Node}
use Rattle.drawing.specs.declared.node.Node.TheVariants.{Constant, Input, Gate}
use Rattle.cells.specs.Truth.{table_of}
use Rattle.cells.specs.Netlist.{cell_of, netlist, answers}

abbrev gate : ℕ → ℕ → Node
gate a b = Gate (record { left = a; right = b })

-- the AND of three inputs, by two gates
abbrev three : List Node
three = Constant ∷ Input ∷ Input ∷ Input ∷ gate 2 4 ∷ gate 8 6 ∷ []

three_table : table_of three (1 ∷ 2 ∷ 3 ∷ []) 5 ≡ 128
unfolding table_of
three_table = refl

-- a leaf hides what is below it
upper_table : table_of three (3 ∷ 4 ∷ []) 5 ≡ 8
unfolding table_of
upper_table = refl

-- a gate of constants needs no leaf
constant_table : table_of (Constant ∷ gate 1 1 ∷ []) [] 1 ≡ 1
unfolding table_of
constant_table = refl

-- outputs that copy, invert, and are constant
three_answers : answers (netlist (1 ∷ 2 ∷ 3 ∷ []) (cell_of three 5 (1 ∷ 2 ∷ 3 ∷ []) ∷ []) (10 ∷ 11 ∷ 0 ∷ 1 ∷ [])) (1 ∷ 1 ∷ 1 ∷ []) ≡ 1 ∷ 0 ∷ 0 ∷ 1 ∷ []
unfolding table_of
three_answers = refl

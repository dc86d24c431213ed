-- The text of the cell list.
use Rattle.std.specs.Prelude.{ℕ, zero, suc, ◌+◌, ◌/◌, ◌%◌, ◌^◌, cond, List, [], ◌∷◌, ◌++◌, map, length, codes, ◌==◌, nat_eq, nat_lt}
use Rattle.std.specs.List.{range_with_len, flat_map}
use Rattle.drawing.specs.Sets.{keep}
use Rattle.drawing.specs.Drawing.{node_of}
use Rattle.cells.specs.declared.cell.Cell.{Cell}
use Rattle.cells.specs.Truth.{bit}
use Rattle.cells.specs.Netlist.{Netlist, leaves_of}

-- a number of one to three decimal digits
abbrev pub number : ℕ → List ℕ
number n =
    cond (nat_lt n 10) ((48 + n) ∷ [])
    (cond (nat_lt n 100) ((48 + n / 10) ∷ (48 + n % 10) ∷ []) ((48 + n / 100) ∷ (48 + n / 10 % 10) ∷ (48 + n % 10) ∷ []))

-- a letter and a number
abbrev pub name : ℕ → ℕ → List ℕ
name letter n = letter ∷ number n

-- the name of node n: the letter n and its number
abbrev pub node_name : ℕ → List ℕ
node_name n = name 110 n

-- the name of output k: the letter o and its place
abbrev pub output_name : ℕ → List ℕ
output_name k = name 111 k

-- names, each behind a space
abbrev pub spaced : List (List ℕ) → List ℕ
spaced names = flat_map (λ word. 32 ∷ word) names

-- the names of some nodes, each behind a space
abbrev pub node_names : List ℕ → List ℕ
node_names nodes = spaced (map node_name nodes)

-- the names of n outputs, each behind a space
abbrev pub output_names : ℕ → List ℕ
output_names n = spaced (map output_name (range_with_len 0 n))

-- the head: the model, the inputs, and n outputs
abbrev pub head_text : List ℕ → ℕ → List ℕ
head_text inputs n = codes ".model lutmap\n.inputs" ++ node_names inputs ++ codes "\n.outputs" ++ output_names n ++ codes "\n"

-- the values of n leaves in row m, leaf 0 first
abbrev pub leaf_digits : ℕ → ℕ → List ℕ
leaf_digits m zero = []
leaf_digits m (suc n) = (48 + m % 2) ∷ leaf_digits (m / 2) n

-- the line that gives row m of n leaves the value 1
abbrev pub line : ℕ → ℕ → List ℕ
line n m = cond (n == 0) (codes "1\n") (leaf_digits m n ++ codes " 1\n")

-- the rows below m whose bit in the table is 1
abbrev pub on_rows : ℕ → ℕ → List ℕ
on_rows t m = keep (λ k. nat_eq (bit t k) 1) (range_with_len 0 m)

-- the lines of a table of n leaves
abbrev pub table_lines : ℕ → ℕ → List ℕ
table_lines t n = flat_map (line n) (on_rows t (2 ^ n))

-- the section of a cell: its names, and a line for each row of leaf values that gives 1
abbrev pub cell_text : Cell → List ℕ
cell_text c =
    codes ".names" ++ node_names (leaves_of c) ++ (32 ∷ node_name c.root) ++ codes "\n" ++ table_lines c.table (length (leaves_of c))

-- output k, of the literal l: a constant, a copy of a node, or its inverse
abbrev pub output_text : ℕ → ℕ → List ℕ
output_text k l =
    cond (node_of l == 0) (codes ".names" ++ (32 ∷ output_name k) ++ cond (l % 2 == 0) (codes "\n") (codes "\n1\n"))
    (codes ".names" ++ (32 ∷ node_name (node_of l)) ++ (32 ∷ output_name k) ++ cond (l % 2 == 0) (codes "\n1 1\n") (codes "\n0 1\n"))

-- the outputs from place k on
abbrev pub output_texts : ℕ → List ℕ → List (List ℕ)
output_texts k [] = []
output_texts k (l ∷ ls) = output_text k l ∷ output_texts (k + 1) ls

-- the sections: the head, each cell, each output, the end
abbrev pub texts : Netlist → List (List ℕ)
texts n =
    head_text n.inputs (length n.outputs) ∷ (map cell_text n.cells ++ (output_texts 0 n.outputs ++ codes ".end\n" ∷ []))

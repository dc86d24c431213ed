-- The text of a drawing: the header, then a line for each input, each output and each gate.
use Rattle.std.specs.Prelude.{ℕ, suc, pred, ◌*◌, List, [], ◌∷◌, ◌++◌, map, length, decimal}
use Rattle.std.specs.List.{flat_map}
use Rattle.drawing.specs.declared.node.Node.{Node}
use Rattle.drawing.specs.declared.node.Node.TheVariants.{Constant, Input, Gate}
use Rattle.drawing.specs.Drawing.{Drawing}

-- a line: its numbers in decimal, one space between two, and byte 10
abbrev pub line_of : List ℕ → List ℕ
line_of [] = []
line_of (n ∷ []) = decimal n ++ 10 ∷ []
line_of (n ∷ m ∷ ms) = decimal n ++ 32 ∷ line_of (m ∷ ms)

-- the numbers on the line of node n, if it is an input: its literal
abbrev pub input_row : ℕ → Node → List (List ℕ)
input_row n Constant = []
input_row n Input = (2 * n ∷ []) ∷ []
input_row n (Gate p) = []

-- the numbers on the line of node n, if it is a gate: its literal and its two fanin literals
abbrev pub gate_row : ℕ → Node → List (List ℕ)
gate_row n Constant = []
gate_row n Input = []
gate_row n (Gate p) = (2 * n ∷ p.left ∷ p.right ∷ []) ∷ []

-- the rows of all nodes, the first of which has the number n
abbrev pub rows : (ℕ → Node → List (List ℕ)) → ℕ → List Node → List (List ℕ)
rows f n [] = []
rows f n (x ∷ xs) = f n x ++ rows f (suc n) xs

-- the numbers on the lines of the outputs: their literals
abbrev pub output_rows : List ℕ → List (List ℕ)
output_rows outputs = map (λ l. l ∷ []) outputs

-- the lines below the header: inputs, outputs, gates
abbrev pub body : Drawing → List (List ℕ)
body d = rows input_row 0 d.nodes ++ (output_rows d.outputs ++ rows gate_row 0 d.nodes)

-- the figures of the header, M I L O A: the last node, and how many inputs, latches, outputs and gates there are
abbrev pub heading : Drawing → List ℕ
heading d =
    pred (length d.nodes) ∷ length (rows input_row 0 d.nodes) ∷ 0 ∷ length d.outputs
    ∷ length (rows gate_row 0 d.nodes) ∷ []

-- `aag` and a space
abbrev pub word : List ℕ
word = 97 ∷ 97 ∷ 103 ∷ 32 ∷ []

-- the text of a drawing: the first word, and a line for each row
abbrev pub text : Drawing → List ℕ
text d = word ++ (line_of (heading d) ++ flat_map line_of (body d))

-- the most bytes of a text: enough for the header and a line for each of 256 inputs, 64 outputs and 256 gates
abbrev pub most_bytes : ℕ
most_bytes = 4376

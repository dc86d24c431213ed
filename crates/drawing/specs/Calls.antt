-- What the calls that add to a drawing answer, and what the drawing is then.
use Rattle.std.specs.Prelude.{ℕ, cond, ◌&&◌, [], ◌∷◌, ◌++◌, length, is_ok, Ok, Err, Result, nat_lt, slice_set}
use Rattle.drawing.specs.declared.node.Node.TheVariants.{Input, Gate}
use Rattle.drawing.specs.declared.node.Pair.{Pair}
use Rattle.drawing.specs.declared.refusal.Refusal.{Refusal}
use Rattle.drawing.specs.declared.refusal.Refusal.TheVariants.{NodesFull, OutputsFull, BadLiteral, NotAGate}
use Rattle.drawing.specs.Drawing.{Drawing, drawing, most_nodes, most_outputs, names, node_of, at, is_gate}

-- what input answers: the next number, if there is one
abbrev pub input_answer : Drawing → Result ℕ Refusal
input_answer d = cond (nat_lt (length d.nodes) most_nodes) (Ok (length d.nodes)) (Err NodesFull)

-- the drawing with one input more, or as it was
abbrev pub after_input : Drawing → Drawing
after_input d = cond (is_ok (input_answer d)) (drawing (d.nodes ++ Input ∷ []) d.outputs) d

-- what gate answers: the next number, if there is one and both literals name nodes that exist
abbrev pub gate_answer : Drawing → Pair → Result ℕ Refusal
gate_answer d p =
    cond (nat_lt (length d.nodes) most_nodes)
    (cond (names d.nodes p.left && names d.nodes p.right) (Ok (length d.nodes)) (Err BadLiteral))
    (Err NodesFull)

-- the drawing with one gate more, or as it was
abbrev pub after_gate : Drawing → Pair → Drawing
after_gate d p = cond (is_ok (gate_answer d p)) (drawing (d.nodes ++ Gate p ∷ []) d.outputs) d

-- what output answers: the next place, if there is one and the literal names a node that exists
abbrev pub output_answer : Drawing → ℕ → Result ℕ Refusal
output_answer d l =
    cond (nat_lt (length d.outputs) most_outputs) (cond (names d.nodes l) (Ok (length d.outputs)) (Err BadLiteral))
    (Err OutputsFull)

-- the drawing with one output more, or as it was
abbrev pub after_output : Drawing → ℕ → Drawing
after_output d l = cond (is_ok (output_answer d l)) (drawing d.nodes (d.outputs ++ l ∷ [])) d

-- what retie answers: accepted if g is a gate and both literals name nodes below it
abbrev pub retie_answer : Drawing → ℕ → Pair → Result (Unit {0}) Refusal
retie_answer d g p =
    cond (is_gate (at d.nodes g)) (cond (nat_lt (node_of p.left) g && nat_lt (node_of p.right) g) (Ok tt) (Err BadLiteral))
    (Err NotAGate)

-- the drawing with the gate tied anew, or as it was
abbrev pub after_retie : Drawing → ℕ → Pair → Drawing
after_retie d g p = cond (is_ok (retie_answer d g p)) (drawing (slice_set d.nodes g (Gate p)) d.outputs) d

-- the fact holds where the call was refused
abbrev pub Unless : {T : Type 0} → Result T Refusal → Type 0 → Type 0
Unless (Ok x) p = Unit {0}
Unless (Err e) p = p

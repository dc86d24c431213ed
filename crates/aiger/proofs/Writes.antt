-- The lines of a drawing's text, one after another.
use Rattle.std.proofs.Common.{◌≡◌, ℕ, suc, cond, ◌+◌, ◌-◌, ◌<◌, ◌≤◌, List, [], ◌∷◌, ◌++◌, length, get_or, take, drop, decimal, count_by, sym, refl, ap, ◌∙◌, append_assoc, arith}
use Rattle.std.specs.List.{flat_map}
use Rattle.std.proofs.lemmas.List.{flat_map_more, map_more, take_all}
use Rattle.std.proofs.lemmas.List.Sums.{sum_by-cons}
use Rattle.drawing.specs.declared.node.Node.{Node}
use Rattle.drawing.specs.declared.node.Node.TheVariants.{Constant, Input, Gate}
use Rattle.drawing.specs.Drawing.{drawing, is_input, is_gate}
use Rattle.aiger.specs.Text.{word, line_of, rows, input_row, gate_row, output_rows, heading, body, text}
use Rattle.aiger.proofs.Lines.{joined_append}
use Rattle.aiger.proofs.Rows.{rows_more}

-- the lines of one node more
pub lines_more : (f : ℕ → Node → List (List ℕ)) (ns : List Node) (k : ℕ) (d : Node) → k < length ns → flat_map line_of (rows f 0 (take k ns)) ++ flat_map line_of (f k (get_or ns k d)) ≡ flat_map line_of (rows f 0 (take (k + 1) ns))
lines_more f ns k d lt = sym (ap (flat_map line_of) (rows_more f ns k d lt) ∙ joined_append (rows f 0 (take k ns)) (f k (get_or ns k d)))

-- the line of one output more
pub outputs_more : (outputs : List ℕ) (k : ℕ) → k < length outputs → flat_map line_of (output_rows (take k outputs)) ++ line_of (get_or outputs k 0 ∷ []) ≡ flat_map line_of (output_rows (take (k + 1) outputs))
outputs_more outputs k lt =
    flat_map_more line_of [] (output_rows (take k outputs)) (get_or outputs k 0 ∷ []) ∙ ap (flat_map line_of) (sym (map_more (λ l. l ∷ []) outputs k 0 lt))

-- a line by its first number
pub line_last : (ns : List ℕ) → 1 ≤ length ns → length ns < 2 → decimal (get_or ns 0 0) ++ 10 ∷ [] ≡ line_of ns
line_last [] h k = absurd (omega arith)
line_last (n ∷ []) h k = refl
line_last (n ∷ m ∷ ms) h k = absurd (omega arith)

pub line_first : (ns : List ℕ) → 2 ≤ length ns → (decimal (get_or ns 0 0) ++ 32 ∷ []) ++ line_of (take (length ns - 1) (drop 1 ns)) ≡ line_of ns
line_first [] h = absurd (omega arith)
line_first (n ∷ []) h = absurd (omega arith)
line_first (n ∷ m ∷ ms) h =
    ap (λ ns. (decimal n ++ 32 ∷ []) ++ line_of ns) (take_all (length (n ∷ m ∷ ms) - 1) (m ∷ ms) (omega arith)) ∙ append_assoc (decimal n) (32 ∷ []) (line_of (m ∷ ms))

-- how many inputs and gates there are
pub inputs_counted : (k : ℕ) (ns : List Node) → count_by is_input ns ≡ length (rows input_row k ns)
inputs_counted k [] = refl
inputs_counted k (Constant ∷ ns) = inputs_counted (suc k) ns
inputs_counted k (Input ∷ ns) = sum_by-cons (λ x. cond (is_input x) 1 0) Input ns ∙ (omega (arith, inputs_counted (suc k) ns))
inputs_counted k (Gate p ∷ ns) = inputs_counted (suc k) ns

pub gates_counted : (k : ℕ) (ns : List Node) → count_by is_gate ns ≡ length (rows gate_row k ns)
gates_counted k [] = refl
gates_counted k (Constant ∷ ns) = gates_counted (suc k) ns
gates_counted k (Input ∷ ns) = gates_counted (suc k) ns
gates_counted k (Gate p ∷ ns) = sum_by-cons (λ x. cond (is_gate x) 1 0) (Gate p) ns ∙ (omega (arith, gates_counted (suc k) ns))

-- the header and the lines of the inputs, the outputs and the gates are the text
pub text_parts : (ns : List Node) (ls : List ℕ) → (((word ++ line_of (heading (drawing ns ls))) ++ flat_map line_of (rows input_row 0 ns)) ++ flat_map line_of (output_rows ls)) ++ flat_map line_of (rows gate_row 0 ns) ≡ text (drawing ns ls)
text_parts ns ls =
    let h = line_of (heading (drawing ns ls)) in
    let a = flat_map line_of (rows input_row 0 ns) in
    let b = flat_map line_of (output_rows ls) in
    let c = flat_map line_of (rows gate_row 0 ns) in
    let lines : a ++ (b ++ c) ≡ flat_map line_of (body (drawing ns ls)) =
    ap (λ l. a ++ l) (sym (joined_append (output_rows ls) (rows gate_row 0 ns))) ∙ sym (joined_append (rows input_row 0 ns) (output_rows ls ++ rows gate_row 0 ns)) in
    append_assoc ((word ++ h) ++ a) b c ∙ append_assoc (word ++ h) a (b ++ c) ∙ append_assoc word h (a ++ (b ++ c)) ∙ ap (λ l. word ++ (h ++ l)) lines

-- How many bytes the lines of a drawing's text have.
use Rattle.std.proofs.Common.{◌≡◌, ℕ, suc, ◌+◌, ◌*◌, ◌<◌, ◌≤◌, true, false, ◌&&◌, eqb, ltb, List, [], ◌∷◌, ◌++◌, length, get_or, decimal, refl, ap, inl, inr, arith}
use mathlib.Core.Bool.{beq}
use Rattle.std.specs.List.{flat_map, AllByRecursion as All}
use Rattle.std.proofs.lemmas.Bool.{and_parts, ltb-true}
use Rattle.std.proofs.lemmas.List.{length-append}
use Rattle.std.proofs.lemmas.Fmt.{length-decimal-le}
use Rattle.drawing.specs.declared.node.Node.{Node}
use Rattle.drawing.specs.declared.node.Node.TheVariants.{Constant, Input, Gate}
use Rattle.drawing.specs.Sets.{In}
use Rattle.drawing.specs.Drawing.{Drawing, drawing, node_of, sound_at, lawful}
use Rattle.drawing.proofs.Sound.{sound_at_lem}
use Rattle.drawing.proofs.Lawful.{Lawfully, lawful_says}
use Rattle.aiger.specs.Text.{line_of, input_row, gate_row, rows, output_rows, heading, text, most_bytes}
use Rattle.aiger.proofs.Lines.{joined_append}

-- a line of numbers of at most three digits
line_bytes : (ns : List ℕ) → All (λ x. x < 1000) ns → length (line_of ns) ≤ 4 * length ns
line_bytes [] h = omega arith
line_bytes (n ∷ []) h = omega (arith, length-append (decimal n) (10 ∷ []), length-decimal-le 3 n (omega arith) h.0 (omega arith))
line_bytes (n ∷ m ∷ ms) h =
    omega (arith, length-append (decimal n) (32 ∷ line_of (m ∷ ms)), length-decimal-le 3 n (omega arith) h.0 (omega arith), line_bytes (m ∷ ms) h.1)

inputs_bytes : (n : ℕ) (ns : List Node) → n + length ns ≤ 256 → length (flat_map line_of (rows input_row n ns)) ≤ 4 * length ns
inputs_bytes n [] h = omega arith
inputs_bytes n (Constant ∷ ns) h = omega (arith, inputs_bytes (suc n) ns (omega arith))
inputs_bytes n (Gate p ∷ ns) h = omega (arith, inputs_bytes (suc n) ns (omega arith))
inputs_bytes n (Input ∷ ns) h =
    omega (arith, length-append (line_of (2 * n ∷ [])) (flat_map line_of (rows input_row (suc n) ns)), line_bytes (2 * n ∷ []) (omega arith, tt), inputs_bytes (suc n) ns (omega arith))

outputs_bytes : (ls : List ℕ) → ((o : ℕ) → In o ls → o < 1000) → length (flat_map line_of (output_rows ls)) ≤ 4 * length ls
outputs_bytes [] h = omega arith
outputs_bytes (l ∷ ls) h =
    omega (arith, length-append (line_of (l ∷ [])) (flat_map line_of (output_rows ls)), line_bytes (l ∷ []) (h l (inl refl), tt), outputs_bytes ls (λ o i. h o (inr i)))

-- a sound gate's literals name nodes below it, and so have at most three digits
abbrev Short : Node → Type 0
Short Constant = Unit {0}
Short Input = Unit {0}
Short (Gate p) = (p.left < 1000) × (p.right < 1000)

short : (v : ℕ) (x : Node) → v < 256 → sound_at v x ≡ true → Short x
short v Constant l h = tt
short v Input l h = tt
short v (Gate p) l h =
    let q = and_parts (ltb (node_of p.left) v) (ltb (node_of p.right) v && true) (and_parts (beq false (eqb v 0)) _ h).1 in
    let a = ltb-true (node_of p.left) v q.0 in
    let b = ltb-true (node_of p.right) v (and_parts (ltb (node_of p.right) v) true q.1).0 in
    (omega arith, omega arith)

gates_bytes : (n : ℕ) (ns : List Node) → ((j : ℕ) → j < length ns → Short (get_or ns j Constant)) → n + length ns ≤ 256 → length (flat_map line_of (rows gate_row n ns)) ≤ 12 * length ns
gates_bytes n [] s h = omega arith
gates_bytes n (Constant ∷ ns) s h = omega (arith, gates_bytes (suc n) ns (λ j lt. s (suc j) (omega arith)) (omega arith))
gates_bytes n (Input ∷ ns) s h = omega (arith, gates_bytes (suc n) ns (λ j lt. s (suc j) (omega arith)) (omega arith))
gates_bytes n (Gate p ∷ ns) s h =
    let row = 2 * n ∷ p.left ∷ p.right ∷ [] in
    let two = s 0 (omega arith) in
    omega (arith, length-append (line_of row) (flat_map line_of (rows gate_row (suc n) ns)), line_bytes row (omega arith, (two.0, (two.1, tt))), gates_bytes (suc n) ns (λ j lt. s (suc j) (omega arith)) (omega arith))

-- no kind has more rows than there are nodes
inputs_few : (n : ℕ) (ns : List Node) → length (rows input_row n ns) ≤ length ns
inputs_few n [] = omega arith
inputs_few n (Constant ∷ ns) = omega (arith, inputs_few (suc n) ns)
inputs_few n (Input ∷ ns) = omega (arith, inputs_few (suc n) ns)
inputs_few n (Gate p ∷ ns) = omega (arith, inputs_few (suc n) ns)

gates_few : (n : ℕ) (ns : List Node) → length (rows gate_row n ns) ≤ length ns
gates_few n [] = omega arith
gates_few n (Constant ∷ ns) = omega (arith, gates_few (suc n) ns)
gates_few n (Input ∷ ns) = omega (arith, gates_few (suc n) ns)
gates_few n (Gate p ∷ ns) = omega (arith, gates_few (suc n) ns)

by_parts : (ns : List Node) (ls : List ℕ) → Lawfully ns ls → length (text (drawing ns ls)) ≤ most_bytes
by_parts ns ls h =
    let few = h.nodes_few in
    let fewer = h.outputs_few in
    let head = line_of (heading (drawing ns ls)) in
    let a = rows input_row 0 ns in
    let b = output_rows ls in
    let c = rows gate_row 0 ns in
    let top = line_bytes (heading (drawing ns ls)) (omega arith, (omega (arith, inputs_few 0 ns), (omega arith, (omega arith, (omega (arith, gates_few 0 ns), tt))))) in
    let ins = inputs_bytes 0 ns (omega arith) in
    let outs = outputs_bytes ls (λ o i. let e = h.outputs_named o i in omega arith) in
    let gates = gates_bytes 0 ns (λ j lt. short j (get_or ns j Constant) (omega arith) (sound_at_lem ns j h.nodes_sound lt)) (omega arith) in
    let all = joined_append a (b ++ c) in
    let rest = joined_append b c in
    omega (arith, length-append head (flat_map line_of (a ++ (b ++ c))), ap length all, ap length rest, length-append (flat_map line_of a) (flat_map line_of (b ++ c)), length-append (flat_map line_of b) (flat_map line_of c))

pub short_text : (d : Drawing) → lawful d ≡ true → length (text d) ≤ most_bytes
short_text d h = by_parts d.nodes d.outputs (lawful_says d.nodes d.outputs h)

-- The text of a lawful drawing is accepted, and gives that drawing.
use Rattle.std.proofs.Common.{◌≡◌, ℕ, suc, ◌+◌, ◌*◌, ◌/◌, ◌%◌, ◌<◌, ◌≤◌, true, false, List, [], ◌∷◌, ◌++◌, map, length, get_or, set, replicate, Ok, sym, refl, ap, ◌∙◌, subst, inl, inr, append_assoc, append-nil, arith}
use Rattle.std.specs.List.{flat_map, AllByRecursion as All}
use Rattle.std.proofs.lemmas.List.{length-append, length-map, length-replicate, length_push, get_or_at, set_at}
use Rattle.std.proofs.lemmas.Bool.{and_from, eq-eqb, lt-ltb, le-leb, both_ways, not_from_false, cond-true}
use Rattle.drawing.specs.declared.node.Node.{Node}
use Rattle.drawing.specs.declared.node.Node.TheVariants.{Constant, Input, Gate}
use Rattle.aiger.specs.declared.part.Kind.{Kind}
use Rattle.aiger.specs.declared.part.Kind.TheVariants.{Inputs, Outputs, Gates}
use Rattle.drawing.specs.declared.refusal.Rule.TheVariants.{Literal}
use Rattle.drawing.specs.Sets.{In}
use Rattle.drawing.specs.Drawing.{Drawing, drawing, node_of, is_input, lawful}
use Rattle.drawing.proofs.Sound.{sound_at_lem, sound_some}
use Rattle.drawing.proofs.Lawful.{Lawfully, lawful_says}
use Rattle.aiger.specs.Text.{line_of, input_row, gate_row, rows, output_rows, body, heading, text}
use Rattle.aiger.specs.Reads.{Sheet, width, headed, follows, fits, add, fault, after, read_lines, plan, blank, read_heading, read_word, read}
use Rattle.aiger.proofs.Lines.{joined_append, scan_line}
use Rattle.aiger.proofs.Rows.{plain, rows_count, Stands, sound_stands}

abbrev Small : List ℕ → Type 0
Small ns = All (λ x. x < 1000) ns

-- one line that fits
step : (p : Kind) (ps : List Kind) (sh : Sheet) (ln pos n : ℕ) (ms rest : List ℕ) → Small (n ∷ ms) → length ms ≡ width p → fits p sh (n ∷ ms) ≡ true → (next : ℕ) × (read_lines (p ∷ ps) sh ln pos (line_of (n ∷ ms) ++ rest) ≡ read_lines ps (add p sh (n ∷ ms)) (ln + 1) next rest)
unfolding read_lines
step p ps sh ln pos n ms rest small len good =
    let s = scan_line [] n ms (width p) pos rest small len in
    (s.0, ap (λ x. after x ln (fits p sh) (fault Literal pos ln) (λ ns next rest. read_lines ps (add p sh ns) (ln + 1) next rest)) s.1 ∙ cond-true _ _ _ good)

abbrev sheet : List Node → List ℕ → ℕ → ℕ → Sheet
sheet nodes outputs i g = record { nodes = nodes; outputs = outputs; input = i; gate = g }

-- a gate isn't there yet while inputs are read
abbrev hide : Node → Node
hide Constant = Constant
hide Input = Input
hide (Gate p) = Constant

lifts : (last n : ℕ) (nodes : List Node) → last < n → n < length nodes → follows last (2 * n) nodes ≡ true
lifts last n nodes lo hi =
    and_from _ _ (eq-eqb (2 * n % 2) 0 (omega arith)) (and_from _ _ (lt-ltb last (2 * n / 2) (omega arith)) (lt-ltb (2 * n / 2) (length nodes) (omega arith)))

-- the lines R of the parts ps₁ lead from one sheet to another
pub record Goes (ps₁ : List Kind) (R : List (List ℕ)) (ps : List Kind) (from to : Sheet) (ln pos : ℕ) (rest : List ℕ) : Type 0 where
  pub line' : ℕ
  pub at' : ℕ
  pub goes : read_lines (ps₁ ++ ps) from ln pos (flat_map line_of R ++ rest) ≡ read_lines ps to line' at' rest

module _ (outputs : List ℕ) (g : ℕ) (ps : List Kind) (rest : List ℕ) (after' : List Node) where
  inputs_go : (suf pre nodes : List Node) (n last ln pos : ℕ) → length pre ≡ n → last < n → n + length suf ≤ 256
      → nodes ≡ pre ++ replicate (length suf) Constant → after' ≡ pre ++ map hide suf
      → (last' : ℕ) × Goes (replicate (length (rows input_row n suf)) Inputs) (rows input_row n suf) ps (sheet nodes outputs last g) (sheet after' outputs last' g) ln pos rest
  inputs_go [] pre nodes n last ln pos len lo hi e f =
      (last, record { line' = ln; at' = pos; goes = ap (λ x. read_lines ps (sheet x outputs last g) ln pos rest) (e ∙ sym f) })
  inputs_go (Constant ∷ suf) pre nodes n last ln pos len lo hi e f =
      inputs_go suf (pre ++ Constant ∷ []) nodes (suc n) last ln pos (omega (arith, length_push pre Constant)) (omega arith) (omega arith) (e ∙ sym (append_assoc pre (Constant ∷ []) _)) (f ∙ sym (append_assoc pre (Constant ∷ []) _))
  inputs_go (Gate p ∷ suf) pre nodes n last ln pos len lo hi e f =
      inputs_go suf (pre ++ Constant ∷ []) nodes (suc n) last ln pos (omega (arith, length_push pre Constant)) (omega arith) (omega arith) (e ∙ sym (append_assoc pre (Constant ∷ []) _)) (f ∙ sym (append_assoc pre (Constant ∷ []) _))
  inputs_go (Input ∷ suf) pre nodes n last ln pos len lo hi e f =
      let blanks : List Node = replicate (length suf) Constant in
      let half : 2 * n / 2 ≡ n = omega arith in
      let long : length nodes ≡ length pre + suc (length suf) = ap length e ∙ length-append pre (Constant ∷ blanks) ∙ ap (λ k. length pre + suc k) (length-replicate (length suf) Constant) in
      let more = flat_map line_of (rows input_row (suc n) suf) in
      let s = step Inputs (replicate (length (rows input_row (suc n) suf)) Inputs ++ ps) (sheet nodes outputs last g) ln pos (2 * n) [] (more ++ rest) (omega arith, tt) refl (lifts last n nodes lo (omega arith)) in
      let put : set nodes (2 * n / 2) Input ≡ (pre ++ Input ∷ []) ++ blanks = (λ i. set (e i) (half i) Input) ∙ set_at pre Constant blanks Input n len ∙ sym (append_assoc pre (Input ∷ []) blanks) in
      let r = inputs_go suf (pre ++ Input ∷ []) (set nodes (2 * n / 2) Input) (suc n) (2 * n / 2) (ln + 1) s.0 (omega (arith, length_push pre Input)) (omega arith) (omega arith) put (f ∙ sym (append_assoc pre (Input ∷ []) _)) in (
        r.0,
        record {
          line' = r.1.line';
          at' = r.1.at';
          goes = ap (read_lines _ (sheet nodes outputs last g) ln pos) (append_assoc (line_of (2 * n ∷ [])) more rest) ∙ s.1 ∙ r.1.goes;
        },
      )

outs_go : (todo done : List ℕ) (nodes : List Node) (i g : ℕ) (ps : List Kind) (ln pos : ℕ) (rest : List ℕ) → length nodes ≤ 256 → All (λ l. l / 2 < length nodes) todo
    → Goes (replicate (length todo) Outputs) (output_rows todo) ps (sheet nodes done i g) (sheet nodes (done ++ todo) i g) ln pos rest
outs_go [] done nodes i g ps ln pos rest few h =
    record { line' = ln; at' = pos; goes = ap (λ x. read_lines ps (sheet nodes x i g) ln pos rest) (sym (append-nil done)) }
outs_go (l ∷ todo) done nodes i g ps ln pos rest few h =
    let lt : l / 2 < length nodes = h.0 in
    let more = flat_map line_of (output_rows todo) in
    let s = step Outputs (replicate (length todo) Outputs ++ ps) (sheet nodes done i g) ln pos l [] (more ++ rest) (omega arith, tt) refl (lt-ltb (l / 2) (length nodes) lt) in
    let r = outs_go todo (done ++ l ∷ []) nodes i g ps (ln + 1) s.0 rest few h.1 in
    record {
      line' = r.line';
      at' = r.at';
      goes = ap (read_lines _ (sheet nodes done i g) ln pos) (append_assoc (line_of (l ∷ [])) more rest) ∙ s.1 ∙ r.goes ∙ ap (λ x. read_lines ps (sheet nodes x i g) r.line' r.at' rest) (append_assoc done (l ∷ []) todo);
    }

-- each node from n on stands
abbrev AllStand : ℕ → List Node → Type 0
AllStand n [] = Unit {0}
AllStand n (x ∷ xs) = Stands n x × AllStand (suc n) xs

each_stands : (n : ℕ) (xs : List Node) → ((j m : ℕ) → m ≡ n + j → j < length xs → Stands m (get_or xs j Constant)) → AllStand n xs
each_stands n [] h = tt
each_stands n (x ∷ xs) h = (h 0 n (omega arith) (omega arith), each_stands (suc n) xs (λ j m e lt. h (suc j) m (omega arith) (omega arith)))

no_plain : (n : ℕ) (xs : List Node) → AllStand n xs → plain xs ≡ 0
no_plain n [] h = refl
no_plain n (Constant ∷ xs) h = absurd h.0
no_plain n (Input ∷ xs) h = no_plain (suc n) xs h.1
no_plain n (Gate p ∷ xs) h = no_plain (suc n) xs h.1

module _ (outputs : List ℕ) (i : ℕ) (ps : List Kind) (rest : List ℕ) (after' : List Node) where
  gates_go : (suf pre nodes : List Node) (n last ln pos : ℕ) → length pre ≡ n → last < n → n + length suf ≤ 256 → AllStand n suf
      → nodes ≡ pre ++ map hide suf → after' ≡ pre ++ suf
      → (last' : ℕ) × Goes (replicate (length (rows gate_row n suf)) Gates) (rows gate_row n suf) ps (sheet nodes outputs i last) (sheet after' outputs i last') ln pos rest
  gates_go [] pre nodes n last ln pos len lo hi a e f =
      (last, record { line' = ln; at' = pos; goes = ap (λ x. read_lines ps (sheet x outputs i last) ln pos rest) (e ∙ sym f) })
  gates_go (Constant ∷ suf) pre nodes n last ln pos len lo hi a e f = absurd a.0
  gates_go (Input ∷ suf) pre nodes n last ln pos len lo hi a e f =
      gates_go suf (pre ++ Input ∷ []) nodes (suc n) last ln pos (omega (arith, length_push pre Input)) (omega arith) (omega arith) a.1 (e ∙ sym (append_assoc pre (Input ∷ []) _)) (f ∙ sym (append_assoc pre (Input ∷ []) _))
  gates_go (Gate p ∷ suf) pre nodes n last ln pos len lo hi a e f =
      let half : 2 * n / 2 ≡ n = omega arith in
      let long : length nodes ≡ length pre + suc (length suf) = ap length e ∙ length-append pre (Constant ∷ map hide suf) ∙ ap (λ k. length pre + suc k) (length-map suf hide) in
      let al : p.left / 2 < n = a.0.0 in
      let ar : p.right / 2 < n = a.0.1 in
      let free : get_or nodes (2 * n / 2) Constant ≡ Constant = (λ k. get_or (e k) (half k) Constant) ∙ get_or_at pre Constant (map hide suf) Constant n len in
      let good : fits Gates (sheet nodes outputs i last) (2 * n ∷ p.left ∷ p.right ∷ []) ≡ true = and_from _ _ (lifts last n nodes lo (omega arith)) (and_from _ _ (not_from_false _ (ap is_input free)) (and_from _ _ (lt-ltb (p.left / 2) (2 * n / 2) (omega arith)) (lt-ltb (p.right / 2) (2 * n / 2) (omega arith)))) in
      let more = flat_map line_of (rows gate_row (suc n) suf) in
      let row : List ℕ = 2 * n ∷ p.left ∷ p.right ∷ [] in
      let s = step Gates (replicate (length (rows gate_row (suc n) suf)) Gates ++ ps) (sheet nodes outputs i last) ln pos (2 * n) (p.left ∷ p.right ∷ []) (more ++ rest) (omega arith, (omega arith, (omega arith, tt))) refl good in
      let put : set nodes (2 * n / 2) (Gate p) ≡ (pre ++ Gate p ∷ []) ++ map hide suf = (λ k. set (e k) (half k) (Gate p)) ∙ set_at pre Constant (map hide suf) (Gate p) n len ∙ sym (append_assoc pre (Gate p ∷ []) _) in
      let r = gates_go suf (pre ++ Gate p ∷ []) (set nodes (2 * n / 2) (Gate p)) (suc n) (2 * n / 2) (ln + 1) s.0 (omega (arith, length_push pre (Gate p))) (omega arith) (omega arith) a.1 put (f ∙ sym (append_assoc pre (Gate p ∷ []) _)) in (
        r.0,
        record {
          line' = r.1.line';
          at' = r.1.at';
          goes = ap (read_lines _ (sheet nodes outputs i last) ln pos) (append_assoc (line_of row) more rest) ∙ s.1 ∙ r.1.goes;
        },
      )

all_in : (P : ℕ → Type 0) (xs : List ℕ) → ((o : ℕ) → In o xs → P o) → All P xs
all_in P [] h = tt
all_in P (x ∷ xs) h = (h x (inl refl), all_in P xs (λ o m. h o (inr m)))

read_text : (suf : List Node) (outputs : List ℕ) → AllStand 1 suf → length suf < 256 → All (λ l. l / 2 < suc (length suf)) outputs → length outputs ≤ 64
    → read (text (drawing (Constant ∷ suf) outputs)) ≡ Ok (drawing (Constant ∷ suf) outputs)
unfolding read read_word read_lines
read_text suf outputs a few named seen =
    let d = drawing (Constant ∷ suf) outputs in
    let m = length suf in
    let ins = rows input_row 1 suf in
    let gates = rows gate_row 1 suf in
    let gs = replicate (length gates) Gates in
    let count : m ≡ length ins + length gates = omega (arith, rows_count 1 suf, no_plain 1 suf a) in
    let good : headed (heading d) ≡ true = and_from _ _ (eq-eqb 0 0 refl) (and_from _ _ (eq-eqb m (length ins + length gates) count) (and_from _ _ (lt-ltb m 256 few) (le-leb (length outputs) 64 (omega arith)))) in
    let hidden = Constant ∷ map hide suf in
    let s = scan_line [] m (length ins ∷ 0 ∷ length outputs ∷ length gates ∷ []) 4 4 (flat_map line_of (body d)) (omega arith, (omega arith, (omega arith, (omega arith, (omega arith, tt))))) refl in
    let rest_o = flat_map line_of (output_rows outputs) ++ (flat_map line_of gates ++ []) in
    let parts : flat_map line_of (body d) ≡ flat_map line_of ins ++ rest_o = joined_append ins (output_rows outputs ++ gates) ∙ ap (λ l. flat_map line_of ins ++ l) (joined_append (output_rows outputs) gates ∙ ap (λ l. flat_map line_of (output_rows outputs) ++ l) (sym (append-nil (flat_map line_of gates)))) in
    let g₁ = inputs_go [] 0 (replicate (length outputs) Outputs ++ gs) rest_o hidden suf (Constant ∷ []) (Constant ∷ replicate m Constant) 1 0 1 s.0 refl (omega arith) (omega arith) refl refl in
    let long : length hidden ≡ suc m = ap suc (length-map suf hide) in
    let g₂ = outs_go outputs [] hidden g₁.0 0 gs g₁.1.line' g₁.1.at' (flat_map line_of gates ++ []) (omega arith) (subst (λ k. All (λ l. l / 2 < k) outputs) (sym long) named) in
    let g₃ = gates_go outputs g₁.0 [] [] (Constant ∷ suf) suf (Constant ∷ []) hidden 1 0 g₂.line' g₂.at' refl (omega arith) (omega arith) a refl refl in
    ap read_heading s.1 ∙ cond-true _ _ _ good ∙ ap (read_lines (plan (length ins) (length outputs) (length gates)) (blank m) 1 s.0) parts ∙ g₁.1.goes ∙ g₂.goes ∙ ap (λ x. read_lines x (sheet hidden outputs g₁.0 0) g₂.line' g₂.at' (flat_map line_of gates ++ [])) (sym (append-nil gs)) ∙ g₃.1.goes

by_nodes : (nodes : List Node) (outputs : List ℕ) → Lawfully nodes outputs → read (text (drawing nodes outputs)) ≡ Ok (drawing nodes outputs)
by_nodes [] outputs h = absurd (omega (arith, sound_some [] h.nodes_sound))
by_nodes (Constant ∷ suf) outputs h =
    let stand : (j m : ℕ) → m ≡ 1 + j → j < length suf → Stands m (get_or suf j Constant) = λ j m e lt.
    let same : m ≡ suc j = omega arith in
    subst (λ k. Stands k (get_or suf j Constant)) (sym same) (sound_stands (suc j) (get_or suf j Constant) (omega arith) (sound_at_lem (Constant ∷ suf) (suc j) h.nodes_sound (omega arith))) in
    read_text suf outputs (each_stands 1 suf stand) (omega (arith, h.nodes_few)) (all_in (λ l. node_of l < suc (length suf)) outputs h.outputs_named) h.outputs_few
by_nodes (Input ∷ suf) outputs h = absurd (both_ways false refl (sound_at_lem (Input ∷ suf) 0 h.nodes_sound (omega arith)))
by_nodes (Gate p ∷ suf) outputs h = absurd (both_ways false refl (sound_at_lem (Gate p ∷ suf) 0 h.nodes_sound (omega arith)))

pub written : (d : Drawing) → lawful d ≡ true → read (text d) ≡ Ok d
written d h = by_nodes d.nodes d.outputs (lawful_says d.nodes d.outputs h)

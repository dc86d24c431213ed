-- An accepted text is the text of its drawing, and the drawing is lawful.
use Rattle.std.proofs.Common.{◌≡◌, ℕ, zero, suc, pred, ◌+◌, ◌*◌, ◌/◌, ◌%◌, ◌<◌, ◌≤◌, Bool, true, false, cond, eqb, List, [], ◌∷◌, ◌++◌, length, get_or, replicate, None, Ok, Err, sym, refl, ap, ◌∙◌, subst, ⊎_elim, append_assoc, append-nil, arith}
use Rattle.std.specs.List.{flat_map}
use Rattle.std.proofs.lemmas.List.{length-set, length_push, length-replicate, get_or-replicate, get_or_past, flat_map_more, map_push}
use Rattle.std.proofs.lemmas.Bool.{and_parts, eqb-true, ltb-true, leb-true, not-true, cases_lt}
use Rattle.drawing.specs.declared.node.Node.{Node}
use Rattle.drawing.specs.declared.node.Node.TheVariants.{Constant, Input, Gate}
use Rattle.aiger.specs.declared.part.Kind.TheVariants.{Inputs, Outputs, Gates}
use Rattle.drawing.specs.declared.refusal.Fault.{Fault}
use Rattle.drawing.specs.Sets.{In}
use Rattle.drawing.specs.Drawing.{Drawing, drawing, node_of, is_input, sound_at, lawful}
use Rattle.drawing.proofs.Members.{in_append}
use Rattle.drawing.proofs.Sound.{sound_by}
use Rattle.drawing.proofs.Lawful.{says_lawful}
use Rattle.aiger.specs.Text.{line_of, input_row, gate_row, rows, output_rows, body, heading, word, text}
use Rattle.aiger.specs.Reads.{Scan, broken, whole, scan, Sheet, headed, follows, fits, add, Outcome, after, read_lines, plan, blank, read_heading, read_word, read}
use Rattle.aiger.proofs.Lines.{scan_back}
use Rattle.aiger.proofs.Rows.{over_set, rows_none, rows_put, rows_keep, rows_count, plain_none, Stands, stands_sound}

-- What is kept while lines are read.

-- the literals of a gate at n name nodes below it
abbrev Sits : ℕ → Node → Type 0
Sits n Constant = Unit {0}
Sits n Input = Unit {0}
Sits n (Gate p) = (p.left / 2 < n) × (p.right / 2 < n)

pub record Sane (sh : Sheet) : Type 0 where
  pub first : get_or sh.nodes 0 Constant ≡ Constant
  pub inputs : (j : ℕ) → sh.input < j → input_row j (get_or sh.nodes j Constant) ≡ []
  pub gates : (j : ℕ) → sh.gate < j → gate_row j (get_or sh.nodes j Constant) ≡ []
  pub sits : (j : ℕ) → Sits j (get_or sh.nodes j Constant)
  pub named : (o : ℕ) → In o sh.outputs → node_of o < length sh.nodes

abbrev drawn : Sheet → Drawing
drawn sh = drawing sh.nodes sh.outputs

-- from the sheet sh, i inputs, o outputs and a gates to come, the bytes bs led to d
pub record Ends (d : Drawing) (sh : Sheet) (bs : List ℕ) (i o a : ℕ) : Type 0 where
  pub last : Sheet
  pub is : d ≡ drawn last
  pub sane : Sane last
  pub bytes : flat_map line_of (body (drawn sh)) ++ bs ≡ flat_map line_of (body d)
  pub size : length d.nodes ≡ length sh.nodes
  pub ins : length (rows input_row 0 d.nodes) ≡ length (rows input_row 0 sh.nodes) + i
  pub outputs : length d.outputs ≡ length sh.outputs + o
  pub gates : length (rows gate_row 0 d.nodes) ≡ length (rows gate_row 0 sh.nodes) + a

err_ok : {A : Type 0} {f : Fault} {d : Drawing} → ◌≡◌ {A = Outcome} (Err f) (Ok d) → A
err_ok e = let z : ◌≡◌ {A = ℕ} 0 1 = cc in absurd (omega arith)

cond_ok : (t : Bool) (x : Outcome) (f : Fault) (d : Drawing) → cond t x (Err f) ≡ Ok d → (t ≡ true) × (x ≡ Ok d)
cond_ok true x f d e = (refl, e)
cond_ok false x f d e = err_ok e

-- a line that was passed
pub record Passed (s : Scan) (ok : List ℕ → Bool) (go : List ℕ → ℕ → List ℕ → Outcome) (d : Drawing) : Type 0 where
  pub ns : List ℕ
  pub next : ℕ
  pub rest : List ℕ
  pub was : s ≡ whole ns next rest
  pub good : ok ns ≡ true
  pub goes : go ns next rest ≡ Ok d

passed : (s : Scan) (ln : ℕ) (ok : List ℕ → Bool) (f : Fault) (go : List ℕ → ℕ → List ℕ → Outcome) (d : Drawing) → after s ln ok (Err f) go ≡ Ok d → Passed s ok go d
passed (broken p) ln ok f go d e = err_ok e
passed (whole ns p rest) ln ok f go d e =
    let h = cond_ok (ok ns) (go ns p rest) f d e in
    record { ns = ns; next = p; rest = rest; was = refl; good = h.0; goes = h.1 }

one : (ns : List ℕ) → length ns ≡ 1 → ns ≡ get_or ns 0 0 ∷ []
one [] e = absurd (omega arith)
one (a ∷ []) e = refl
one (a ∷ b ∷ ns) e = absurd (omega arith)

three : (ns : List ℕ) → length ns ≡ 3 → ns ≡ get_or ns 0 0 ∷ get_or ns 1 0 ∷ get_or ns 2 0 ∷ []
three [] e = absurd (omega arith)
three (a ∷ []) e = absurd (omega arith)
three (a ∷ b ∷ []) e = absurd (omega arith)
three (a ∷ b ∷ c ∷ []) e = refl
three (a ∷ b ∷ c ∷ d ∷ ns) e = absurd (omega arith)

five : (ns : List ℕ) → length ns ≡ 5 → ns ≡ get_or ns 0 0 ∷ get_or ns 1 0 ∷ get_or ns 2 0 ∷ get_or ns 3 0 ∷ get_or ns 4 0 ∷ []
five [] e = absurd (omega arith)
five (a ∷ []) e = absurd (omega arith)
five (a ∷ b ∷ []) e = absurd (omega arith)
five (a ∷ b ∷ c ∷ []) e = absurd (omega arith)
five (a ∷ b ∷ c ∷ d ∷ []) e = absurd (omega arith)
five (a ∷ b ∷ c ∷ d ∷ f ∷ []) e = refl
five (a ∷ b ∷ c ∷ d ∷ f ∷ g ∷ ns) e = absurd (omega arith)

-- one more line in front of the rest
carry : (R R' : List (List ℕ)) (ns bs rest X : List ℕ) → R' ≡ R ++ ns ∷ [] → bs ≡ line_of ns ++ rest → flat_map line_of R' ++ rest ≡ X → flat_map line_of R ++ bs ≡ X
carry R R' ns bs rest X e f h =
    ap (λ l. flat_map line_of R ++ l) f ∙ sym (append_assoc (flat_map line_of R) (line_of ns) rest) ∙ ap (λ l. l ++ rest) (flat_map_more line_of [] R ns ∙ ap (flat_map line_of) (sym e)) ∙ h

-- What a passed literal says.

pub record Rising (last l : ℕ) (nodes : List Node) : Type 0 where
  pub even : 2 * (l / 2) ≡ l
  pub up : last < l / 2
  pub within : l / 2 < length nodes

rising : (last l : ℕ) (nodes : List Node) → follows last l nodes ≡ true → Rising last l nodes
rising last l nodes e =
    let p = and_parts _ _ e in
    let q = and_parts _ _ p.1 in
    let h : l % 2 ≡ 0 = eqb-true _ _ p.0 in
    record { even = omega arith; up = ltb-true _ _ q.0; within = ltb-true _ _ q.1 }

no_gates : (sh : Sheet) → Sane sh → sh.gate ≡ 0 → rows gate_row 0 sh.nodes ≡ []
no_gates sh s z =
    rows_none gate_row 0 sh.nodes (λ j m e. by j m (omega arith))
  where
    by : (j m : ℕ) → m ≡ j → gate_row m (get_or sh.nodes j Constant) ≡ []
    by zero m e = ap (gate_row m) s.first
    by (suc j) m e = subst (λ k. gate_row k (get_or sh.nodes (suc j) Constant) ≡ []) (sym e) (s.gates (suc j) (omega arith))

plain_of : (m : ℕ) (x : Node) → is_input x ≡ false → input_row m x ≡ []
plain_of m Constant e = refl
plain_of m Input e = let w : ◌≡◌ {A = ℕ} 0 1 = cc in absurd (omega arith)
plain_of m (Gate p) e = refl

-- Each part's lines.

module _ (sh : Sheet) (sane : Sane sh) where
  input_sane : (ns : List ℕ) → Rising sh.input (get_or ns 0 0) sh.nodes → Sane (add Inputs sh ns)
  input_sane ns r =
      let i = get_or ns 0 0 / 2 in
      record {
        first = over_set (λ j y. j ≡ 0 → y ≡ Constant) sh.nodes i Input r.within (λ z. absurd (omega (arith, r.up))) 0 (λ _ _. sane.first) refl;
        inputs = λ j lt. over_set (λ j y. i < j → input_row j y ≡ []) sh.nodes i Input r.within (λ z. absurd (omega arith)) j (λ _ h. sane.inputs j (omega (arith, r.up))) lt;
        gates = λ j lt. over_set (λ j y. sh.gate < j → gate_row j y ≡ []) sh.nodes i Input r.within (λ _. refl) j (λ _ h. sane.gates j h) lt;
        sits = λ j. over_set Sits sh.nodes i Input r.within tt j (λ _. sane.sits j);
        named = λ o m. omega (arith, sane.named o m, length-set sh.nodes i Input);
      }

  output_sane : (ns : List ℕ) → get_or ns 0 0 / 2 < length sh.nodes → Sane (add Outputs sh ns)
  output_sane ns r =
      let l = get_or ns 0 0 in
      record {
        first = sane.first;
        inputs = sane.inputs;
        gates = sane.gates;
        sits = sane.sits;
        named = λ o m. ⊎_elim (λ n. sane.named o n) (λ n. ⊎_elim (λ (e : l ≡ o). subst (λ x. node_of x < length sh.nodes) e r) (λ k. elim k [ ]) n) (in_append o sh.outputs (l ∷ []) m);
      }

  gate_sane : (ns : List ℕ) → Rising sh.gate (get_or ns 0 0) sh.nodes → get_or ns 1 0 / 2 < get_or ns 0 0 / 2 → get_or ns 2 0 / 2 < get_or ns 0 0 / 2 → Sane (add Gates sh ns)
  gate_sane ns r a b =
      let i = get_or ns 0 0 / 2 in
      let g = Gate (record { left = get_or ns 1 0; right = get_or ns 2 0 }) in
      record {
        first = over_set (λ j y. j ≡ 0 → y ≡ Constant) sh.nodes i g r.within (λ z. absurd (omega (arith, r.up))) 0 (λ _ _. sane.first) refl;
        inputs = λ j lt. over_set (λ j y. sh.input < j → input_row j y ≡ []) sh.nodes i g r.within (λ _. refl) j (λ _ h. sane.inputs j h) lt;
        gates = λ j lt. over_set (λ j y. i < j → gate_row j y ≡ []) sh.nodes i g r.within (λ z. absurd (omega arith)) j (λ _ h. sane.gates j (omega (arith, r.up))) lt;
        sits = λ j. over_set Sits sh.nodes i g r.within (a, b) j (λ _. sane.sits j);
        named = λ o m. omega (arith, sane.named o m, length-set sh.nodes i g);
      }

-- the sections of what is written, with one line more
module _ (A B C : List (List ℕ)) (row : List ℕ) where
  gate_last : A ++ (B ++ (C ++ row ∷ [])) ≡ (A ++ (B ++ C)) ++ row ∷ []
  gate_last = simp append_assoc

  output_last : C ≡ [] → A ++ ((B ++ row ∷ []) ++ C) ≡ (A ++ (B ++ C)) ++ row ∷ []
  output_last e = (λ i. A ++ ((B ++ row ∷ []) ++ e i)) ∙ (simp (append_assoc, append-nil)) ∙ sym (λ i. (A ++ (B ++ e i)) ++ row ∷ [])

  input_last : B ≡ [] → C ≡ [] → (A ++ row ∷ []) ++ (B ++ C) ≡ (A ++ (B ++ C)) ++ row ∷ []
  input_last e f = (λ i. (A ++ row ∷ []) ++ (e i ++ f i)) ∙ (simp (append_assoc, append-nil)) ∙ sym (λ i. (A ++ (e i ++ f i)) ++ row ∷ [])

module _ (sh : Sheet) (sane : Sane sh) (ns : List ℕ) where
  gate_row_lem : length ns ≡ 3 → Rising sh.gate (get_or ns 0 0) sh.nodes → is_input (get_or sh.nodes (get_or ns 0 0 / 2) Constant) ≡ false
      → (rows input_row 0 (add Gates sh ns).nodes ≡ rows input_row 0 sh.nodes) × (rows gate_row 0 (add Gates sh ns).nodes ≡ rows gate_row 0 sh.nodes ++ ns ∷ [])
  gate_row_lem len r free =
      let i = get_or ns 0 0 / 2 in
      let g = Gate (record { left = get_or ns 1 0; right = get_or ns 2 0 }) in
      let row : 2 * i ∷ get_or ns 1 0 ∷ get_or ns 2 0 ∷ [] ≡ ns = ap (λ x. x ∷ get_or ns 1 0 ∷ get_or ns 2 0 ∷ []) r.even ∙ sym (three ns len) in (
        rows_keep input_row 0 sh.nodes i g (λ m e. plain_of m (get_or sh.nodes i Constant) free),
        rows_put gate_row 0 sh.nodes i g r.within (λ j m e h. let same : m ≡ j = omega arith in subst (λ k. gate_row k (get_or sh.nodes j Constant) ≡ []) (sym same) (sane.gates j (omega (arith, r.up)))) i (omega arith)
            ∙ ap (λ l. rows gate_row 0 sh.nodes ++ l ∷ []) row,
      )

  input_row_lem : length ns ≡ 1 → sh.gate ≡ 0 → Rising sh.input (get_or ns 0 0) sh.nodes
      → (rows input_row 0 (add Inputs sh ns).nodes ≡ rows input_row 0 sh.nodes ++ ns ∷ []) × (rows gate_row 0 (add Inputs sh ns).nodes ≡ rows gate_row 0 sh.nodes)
  input_row_lem len z r =
      let i = get_or ns 0 0 / 2 in
      let row : 2 * i ∷ [] ≡ ns = ap (λ x. x ∷ []) r.even ∙ sym (one ns len) in (
        rows_put input_row 0 sh.nodes i Input r.within (λ j m e h. let same : m ≡ j = omega arith in subst (λ k. input_row k (get_or sh.nodes j Constant) ≡ []) (sym same) (sane.inputs j (omega (arith, r.up)))) i (omega arith)
            ∙ ap (λ l. rows input_row 0 sh.nodes ++ l ∷ []) row,
        rows_keep gate_row 0 sh.nodes i Input (λ m e. let same : m ≡ i = omega arith in subst (λ k. gate_row k (get_or sh.nodes i Constant) ≡ []) (sym same) (sane.gates i (omega (arith, r.up)))),
      )

gates_end : (a : ℕ) (sh : Sheet) (ln pos : ℕ) (bs : List ℕ) (d : Drawing) → Sane sh → read_lines (replicate a Gates) sh ln pos bs ≡ Ok d → Ends d sh bs 0 0 a
unfolding read_lines
gates_end zero sh ln pos [] d s e =
    let is : d ≡ drawn sh = cc in
    record {
      last = sh;
      is = is;
      sane = s;
      bytes = append-nil _ ∙ ap (λ x. flat_map line_of (body x)) (sym is);
      size = ap (λ x. length x.nodes) is;
      ins = omega (arith, ap (λ x. length (rows input_row 0 x.nodes)) is);
      outputs = omega (arith, ap (λ x. length x.outputs) is);
      gates = omega (arith, ap (λ x. length (rows gate_row 0 x.nodes)) is);
    }
gates_end zero sh ln pos (b ∷ bs) d s e = err_ok e
gates_end (suc a) sh ln pos bs d s e =
    let p = passed (scan 2 [] None pos bs) ln (fits Gates sh) _ _ d e in
    let ns = p.ns in
    let back = scan_back 2 [] None pos bs ns p.next p.rest p.was in
    let h = and_parts _ _ p.good in
    let h₁ = and_parts _ _ h.1 in
    let h₂ = and_parts _ _ h₁.1 in
    let r = rising _ _ _ h.0 in
    let w = gate_row_lem sh s ns back.count r (not-true _ h₁.0) in
    let i = get_or ns 0 0 / 2 in
    let g = Gate (record { left = get_or ns 1 0; right = get_or ns 2 0 }) in
    let end = gates_end a (add Gates sh ns) (ln + 1) p.next p.rest d (gate_sane sh s ns r (ltb-true _ _ h₂.0) (ltb-true _ _ h₂.1)) p.goes in
    record {
      last = end.last;
      is = end.is;
      sane = end.sane;
      bytes = carry (body (drawn sh)) (body (drawn (add Gates sh ns))) ns bs p.rest _ ((λ k. w.0 k ++ (output_rows sh.outputs ++ w.1 k)) ∙ gate_last (rows input_row 0 sh.nodes) (output_rows sh.outputs) (rows gate_row 0 sh.nodes) ns) back.bytes end.bytes;
      size = end.size ∙ length-set sh.nodes i g;
      ins = end.ins ∙ ap (λ l. length l + 0) w.0;
      outputs = end.outputs;
      gates = omega (arith, end.gates, ap length w.1, length_push (rows gate_row 0 sh.nodes) ns);
    }

outputs_end : (o a : ℕ) (sh : Sheet) (ln pos : ℕ) (bs : List ℕ) (d : Drawing) → Sane sh → sh.gate ≡ 0 → read_lines (replicate o Outputs ++ replicate a Gates) sh ln pos bs ≡ Ok d → Ends d sh bs 0 o a
unfolding read_lines
outputs_end zero a sh ln pos bs d s z e = gates_end a sh ln pos bs d s e
outputs_end (suc o) a sh ln pos bs d s z e =
    let p = passed (scan 0 [] None pos bs) ln (fits Outputs sh) _ _ d e in
    let ns = p.ns in
    let back = scan_back 0 [] None pos bs ns p.next p.rest p.was in
    let l = get_or ns 0 0 in
    let end = outputs_end o a (add Outputs sh ns) (ln + 1) p.next p.rest d (output_sane sh s ns (ltb-true _ _ p.good)) z p.goes in
    let w : output_rows (sh.outputs ++ l ∷ []) ≡ output_rows sh.outputs ++ ns ∷ [] = map_push (λ l. l ∷ []) sh.outputs l ∙ ap (λ x. output_rows sh.outputs ++ x ∷ []) (sym (one ns back.count)) in
    record {
      last = end.last;
      is = end.is;
      sane = end.sane;
      bytes = carry (body (drawn sh)) (body (drawn (add Outputs sh ns))) ns bs p.rest _ ((λ k. rows input_row 0 sh.nodes ++ (w k ++ rows gate_row 0 sh.nodes)) ∙ output_last (rows input_row 0 sh.nodes) (output_rows sh.outputs) (rows gate_row 0 sh.nodes) ns (no_gates sh s z)) back.bytes end.bytes;
      size = end.size;
      ins = end.ins;
      outputs = omega (arith, end.outputs, length_push sh.outputs l);
      gates = end.gates;
    }

pub inputs_end : (i o a : ℕ) (sh : Sheet) (ln pos : ℕ) (bs : List ℕ) (d : Drawing) → Sane sh → sh.gate ≡ 0 → sh.outputs ≡ [] → read_lines (plan i o a) sh ln pos bs ≡ Ok d → Ends d sh bs i o a
unfolding read_lines
inputs_end zero o a sh ln pos bs d s z n e = outputs_end o a sh ln pos bs d s z e
inputs_end (suc i) o a sh ln pos bs d s z n e =
    let p = passed (scan 0 [] None pos bs) ln (fits Inputs sh) _ _ d e in
    let ns = p.ns in
    let back = scan_back 0 [] None pos bs ns p.next p.rest p.was in
    let r = rising _ _ _ p.good in
    let w = input_row_lem sh s ns back.count z r in
    let end = inputs_end i o a (add Inputs sh ns) (ln + 1) p.next p.rest d (input_sane sh s ns r) z n p.goes in
    record {
      last = end.last;
      is = end.is;
      sane = end.sane;
      bytes = carry (body (drawn sh)) (body (drawn (add Inputs sh ns))) ns bs p.rest _ ((λ k. w.0 k ++ (output_rows sh.outputs ++ w.1 k)) ∙ input_last (rows input_row 0 sh.nodes) (output_rows sh.outputs) (rows gate_row 0 sh.nodes) ns (ap output_rows n) (no_gates sh s z)) back.bytes end.bytes;
      size = end.size ∙ length-set sh.nodes (get_or ns 0 0 / 2) Input;
      ins = omega (arith, end.ins, ap length w.0, length_push (rows input_row 0 sh.nodes) ns);
      outputs = end.outputs;
      gates = end.gates ∙ ap (λ l. length l + a) w.1;
    }

-- The whole text.

blank_plain : (m j : ℕ) → get_or (replicate (suc m) Constant) j Constant ≡ Constant
blank_plain m j =
    ⊎_elim (λ h. get_or-replicate (suc m) j Constant Constant h) (λ h. get_or_past (replicate (suc m) Constant) j Constant (omega (arith, length-replicate (suc m) Constant))) (cases_lt j (suc m))

blank_sane : (m : ℕ) → Sane (blank m)
blank_sane m =
    record {
      first = blank_plain m 0;
      inputs = λ j _. ap (input_row j) (blank_plain m j);
      gates = λ j _. ap (gate_row j) (blank_plain m j);
      sits = λ j. subst (Sits j) (sym (blank_plain m j)) tt;
      named = λ o m. elim m [ ];
    }

blank_rows : (f : ℕ → Node → List (List ℕ)) → ((k : ℕ) → f k Constant ≡ []) → (m : ℕ) → rows f 0 (blank m).nodes ≡ []
blank_rows f h m = rows_none f 0 (blank m).nodes (λ j k e. ap (f k) (blank_plain m j) ∙ h k)

word_back : (ws : List ℕ) (pos : ℕ) (bs : List ℕ) (d : Drawing) → read_word ws pos bs ≡ Ok d → (from : ℕ) × (rest : List ℕ) × (bs ≡ ws ++ rest) × (read_heading (scan 4 [] None from rest) ≡ Ok d)
unfolding read_word
word_back [] pos bs d e = (pos, bs, refl, e)
word_back (w ∷ ws) pos [] d e = err_ok e
word_back (w ∷ ws) pos (b ∷ bs) d e =
    let p = cond_ok (eqb b w) (read_word ws (pos + 1) bs) _ d e in
    let r = word_back ws (pos + 1) bs d p.1 in
    (r.0, r.1, (λ i. eqb-true b w p.0 i ∷ r.2 i), r.3)

-- the nodes all stand, since every one has its line
all_stand : (nodes : List Node) → get_or nodes 0 Constant ≡ Constant → length nodes ≡ 1 + (length (rows input_row 0 nodes) + length (rows gate_row 0 nodes)) → ((j : ℕ) → Sits j (get_or nodes j Constant)) → (n : ℕ) → 0 < n → n < length nodes → Stands n (get_or nodes n Constant)
all_stand [] f e s n lo hi = absurd (omega arith)
all_stand (Constant ∷ nodes) f e s zero lo hi = absurd (omega arith)
all_stand (Constant ∷ nodes) f e s (suc n) lo hi =
    let c = rows_count 1 nodes in
    by (get_or nodes n Constant) (s (suc n)) (plain_none nodes (omega arith) n (omega arith))
  where
    by : (x : Node) → Sits (suc n) x → (x ≡ Constant → ⊥) → Stands (suc n) x
    by Constant h ne = ne refl
    by Input h ne = tt
    by (Gate p) h ne = h
all_stand (Input ∷ nodes) f e s n lo hi = let w : ◌≡◌ {A = ℕ} 0 1 = cc in absurd (omega arith)
all_stand (Gate p ∷ nodes) f e s n lo hi = let w : ◌≡◌ {A = ℕ} 0 1 = cc in absurd (omega arith)

sound_from : (nodes : List Node) → get_or nodes 0 Constant ≡ Constant → ((n : ℕ) → 0 < n → n < length nodes → Stands n (get_or nodes n Constant)) → (v : ℕ) → v < length nodes → sound_at v (get_or nodes v Constant) ≡ true
sound_from nodes first stand zero l = ap (sound_at 0) first
sound_from nodes first stand (suc v) l = stands_sound (suc v) (get_or nodes (suc v) Constant) (omega arith) (stand (suc v) (omega arith) l)

pub record Accepted (t : List ℕ) (d : Drawing) : Type 0 where
  pub written : t ≡ text d
  pub is_lawful : lawful d ≡ true

pub accepted : (t : List ℕ) (d : Drawing) → read t ≡ Ok d → Accepted t d
unfolding read
accepted t d e =
    let w = word_back word 0 t d e in
    let p = passed (scan 4 [] None w.0 w.1) 0 headed _ _ d w.3 in
    let ns = p.ns in
    let back = scan_back 4 [] None w.0 w.1 ns p.next p.rest p.was in
    let h = and_parts _ _ p.good in
    let h₁ = and_parts _ _ h.1 in
    let h₂ = and_parts _ _ h₁.1 in
    let zero_l : get_or ns 2 0 ≡ 0 = eqb-true _ _ h.0 in
    let sum : get_or ns 0 0 ≡ get_or ns 1 0 + get_or ns 4 0 = eqb-true _ _ h₁.0 in
    let top : get_or ns 0 0 < 256 = ltb-true _ _ h₂.0 in
    let outputs : get_or ns 3 0 ≤ 64 = leb-true _ _ h₂.1 in
    let m = get_or ns 0 0 in
    let end = inputs_end (get_or ns 1 0) (get_or ns 3 0) (get_or ns 4 0) (blank m) 1 p.next p.rest d (blank_sane m) refl refl p.goes in
    let no_in = blank_rows input_row (λ _. refl) m in
    let no_gate = blank_rows gate_row (λ _. refl) m in
    let none : body (drawn (blank m)) ≡ [] = (λ i. no_in i ++ ([] ++ no_gate i)) in
    let size : length d.nodes ≡ suc m = end.size ∙ length-replicate (suc m) Constant in
    let ins : length (rows input_row 0 d.nodes) ≡ get_or ns 1 0 = omega (arith, end.ins, ap length no_in) in
    let gates : length (rows gate_row 0 d.nodes) ≡ get_or ns 4 0 = omega (arith, end.gates, ap length no_gate) in
    let many : length d.outputs ≡ get_or ns 3 0 = omega (arith, end.outputs) in
    let pm : pred (length d.nodes) ≡ m = omega arith in
    let head : heading d ≡ ns = (λ i. pm i ∷ ins i ∷ sym zero_l i ∷ many i ∷ gates i ∷ []) ∙ sym (five ns back.count) in
    let rest : p.rest ≡ flat_map line_of (body d) = ap (λ l. flat_map line_of l ++ p.rest) (sym none) ∙ end.bytes in
    let lf : Sane end.last → d ≡ drawn end.last → lawful d ≡ true = λ s is.
    let first : get_or d.nodes 0 Constant ≡ Constant = ap (λ x. get_or x.nodes 0 Constant) is ∙ s.first in
    let stand = all_stand d.nodes first (omega arith) (λ j. subst (λ x. Sits j (get_or x.nodes j Constant)) (sym is) (s.sits j)) in
    says_lawful d.nodes d.outputs record {
      nodes_sound = sound_by d.nodes (omega arith) (sound_from d.nodes first stand);
      outputs_named = λ o m. subst (λ x. node_of o < length x.nodes) (sym is) (s.named o (subst (λ x. In o x.outputs) is m));
      nodes_few = omega arith;
      outputs_few = omega arith;
    } in
    record {
      written = w.2 ∙ ap (λ l. word ++ l) (back.bytes ∙ (λ i. line_of (sym head i) ++ rest i));
      is_lawful = lf end.sane end.is;
    }

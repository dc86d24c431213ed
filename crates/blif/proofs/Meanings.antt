-- Whatever values satisfy the cell list, its outputs have what the netlist answers to its inputs.
use Rattle.std.proofs.Common.{◌≡◌, ℕ, ◌+◌, ◌*◌, ◌%◌, ◌^◌, ◌≤◌, true, false, eqb, ltb, List, [], ◌∷◌, ◌++◌, map, length, sym, refl, ap, ◌∙◌, subst, inl, inr, ⊎_elim, arith}
use Rattle.std.specs.List.{range_with_len}
use Rattle.std.proofs.lemmas.List.{length-map}
use Rattle.std.proofs.lemmas.Bool.{and_parts, or_cases, cond-true, cond-false, cond_both, eqb-true, eq-eqb, ne_eqb, cases_Bool, cases_eq, both_ways, ltb-true}
use Rattle.drawing.specs.Sets.{every, mem, rises, In}
use Rattle.drawing.specs.Drawing.{node_of}
use Rattle.drawing.specs.Values.{Binary, turned, bound}
use Rattle.drawing.proofs.Members.{every_in, in_map, in_append_left, in_append_right}
use Rattle.drawing.proofs.ValueLaws.{binary_none, binary_cons, bound_small}
use Rattle.cells.specs.declared.cell.Cell.{Cell}
use Rattle.cells.specs.Truth.{bit}
use Rattle.cells.specs.Netlist.{Netlist, leaves_of, plain, root_name, row_of, cell_value, look, after, settled, output_value, answers}
use Rattle.cells.specs.Laws.{known, cell_lawful, names_after, cells_lawful, output_lawful, roots_of, names_of, lawful_cover}
use Rattle.cells.proofs.Words.{bit_small}
use Rattle.cells.proofs.Laws.{cell_says, cover_says}
use Rattle.blif.specs.Text.{node_name, output_name, on_rows}
use Rattle.blif.specs.Reading.{Block, Model, block_value}
use Rattle.blif.specs.Meaning.{Satisfies, Means}
use Rattle.blif.proofs.Read.{row_words, cell_block, output_block_by, output_block, output_blocks, read_whole}
use Rattle.blif.proofs.BlockValues.{row_number, table_value, constant_value, copy_value}

-- every value is 0 or 1
abbrev pub Small : List (ℕ × ℕ) → Type 0
Small env = (l : ℕ) → look env l ≤ 1

small_cell : (env : List (ℕ × ℕ)) (c : Cell) → Small env → Small ((root_name c, cell_value (look env) c) ∷ env)
small_cell env c s l =
    cond_both (eqb (root_name c) l) (cell_value (look env) c) (look env l) (λ x. x ≤ 1) (λ _. bit_small c.table (row_of (look env) (leaves_of c))) (λ _. s l)

small_after : (env : List (ℕ × ℕ)) (cs : List Cell) → Small env → Small (after env cs)
small_after env [] s = s
small_after env (c ∷ cs) s = small_after ((root_name c, cell_value (look env) c) ∷ env) cs (small_cell env c s)

module _ (value : List ℕ → ℕ) where
  -- each name has its value
  abbrev Known : List ℕ → List (ℕ × ℕ) → Type 0
  Known names env = (v : ℕ) → mem (plain v) names ≡ true → look env (plain v) ≡ value (node_name v)

  inputs_known : (is : List ℕ) → Known (map plain is) (bound (map plain is) (map value (map node_name is)))
  inputs_known [] v h = absurd (both_ways false refl h)
  inputs_known (i ∷ is) v h =
      ⊎_elim
      (λ (e : i ≡ v). cond-true (eqb (plain i) (plain v)) _ _ (eq-eqb _ _ (ap plain e)) ∙ ap (λ x. value (node_name x)) e)
      (λ (e : i ≡ v → ⊥).
      cond-false (eqb (plain i) (plain v)) _ _ (ne_eqb _ _ (λ (q : 2 * i ≡ 2 * v). e (omega arith)))
      ∙ inputs_known is v (⊎_elim (λ t. absurd (e (let q : 2 * v ≡ 2 * i = eqb-true (plain v) (plain i) t in omega arith))) (λ t. t) (or_cases (eqb (plain v) (plain i)) (mem (plain v) (map plain is)) h)))
      (cases_eq i v)

  -- the leaves' row by their values
  leaves_row : (env : List (ℕ × ℕ)) (ls : List ℕ) → ((l : ℕ) → In l ls → look env (plain l) ≡ value (node_name l)) → row_of (look env) ls ≡ row_number (map value (map node_name ls))
  leaves_row env [] h = refl
  leaves_row env (l ∷ ls) h = let a = h l (inl refl) in let t = leaves_row env ls (λ k i. h k (inr i)) in cc

  leaves_small : (env : List (ℕ × ℕ)) → Small env → (ls : List ℕ) → ((l : ℕ) → In l ls → look env (plain l) ≡ value (node_name l)) → Binary (map value (map node_name ls))
  leaves_small env s [] h = binary_none
  leaves_small env s (l ∷ ls) h = binary_cons _ _ (subst (λ (x : ℕ). x ≤ 1) (h l (inl refl)) (s (plain l))) (leaves_small env s ls (λ k i. h k (inr i)))

  -- a cell's block, where the leaves are known
  pub cell_block_lem : (env : List (ℕ × ℕ)) → Small env → (c : Cell) → ((l : ℕ) → In l (leaves_of c) → look env (plain l) ≡ value (node_name l)) → block_value value (cell_block c) ≡ cell_value (look env) c
  cell_block_lem env s c own =
      let ls = leaves_of c in
      let vs = map value (map node_name ls) in
      let e : length ls ≡ length vs = sym (length-map (map node_name ls) value ∙ length-map ls node_name) in
      ap (λ n. block_value value (record { ins = map node_name ls; out = node_name c.root; rows = map (row_words n) (on_rows c.table (2 ^ n)) })) e
      ∙ table_value c.table vs (leaves_small env s ls own)
      ∙ ap (bit c.table) (sym (leaves_row env ls own))

  known_more : (names : List ℕ) (env : List (ℕ × ℕ)) (r v : ℕ) → Known names env → v ≡ value (node_name r) → Known (plain r ∷ names) ((plain r, v) ∷ env)
  known_more names env r v k e w h =
      ⊎_elim
      (λ (q : r ≡ w). cond-true (eqb (plain r) (plain w)) v _ (eq-eqb _ _ (ap plain q)) ∙ e ∙ ap (λ x. value (node_name x)) q)
      (λ (q : r ≡ w → ⊥).
      cond-false (eqb (plain r) (plain w)) v _ (ne_eqb _ _ (λ (p : 2 * r ≡ 2 * w). q (omega arith)))
      ∙ k w (⊎_elim (λ t. absurd (q (let p : 2 * w ≡ 2 * r = eqb-true (plain w) (plain r) t in omega arith))) (λ t. t) (or_cases (eqb (plain w) (plain r)) (mem (plain w) names) h)))
      (cases_eq r w)

  cells_known : (inputs names : List ℕ) (env : List (ℕ × ℕ)) (cs : List Cell) → Known names env → Small env → cells_lawful inputs names cs ≡ true → ((c : Cell) → In c cs → value (node_name c.root) ≡ block_value value (cell_block c)) → Known (names_after names cs) (after env cs)
  cells_known inputs names env [] k s law sat = k
  cells_known inputs names env (c ∷ cs) k s law sat =
      let p = and_parts (cell_lawful inputs names c) (cells_lawful inputs (root_name c ∷ names) cs) law in
      let v = cell_value (look env) c in
      let own : (l : ℕ) → In l (leaves_of c) → look env (plain l) ≡ value (node_name l) = λ l i. k l (every_in (λ x. mem (plain x) names) l (leaves_of c) (cell_says inputs names c p.0).leaves_known i) in
      cells_known inputs (root_name c ∷ names) ((root_name c, v) ∷ env) cs (known_more names env c.root v k (sym (cell_block_lem env s c own) ∙ sym (sat c (inl refl)))) (small_cell env c s) p.1 (λ d i. sat d (inr i))

  -- an output's block, where its node is known or is 0
  module _ (env : List (ℕ × ℕ)) (s : Small env) (none : look env 0 ≡ 0) where
    pub output_block_lem : (place l : ℕ) → (eqb (node_of l) 0 ≡ false → look env (plain (node_of l)) ≡ value (node_name (node_of l))) → block_value value (output_block place l) ≡ output_value (look env) l
    output_block_lem place l known =
        ⊎_elim
        (λ (z : eqb (node_of l) 0 ≡ true).
        ap (λ t. block_value value (output_block_by t (eqb (l % 2) 0) place (node_of l))) z
        ∙ constant_value (eqb (l % 2) 0)
        ∙ sym (ap (λ x. turned (look env (plain x)) l) (eqb-true (node_of l) 0 z) ∙ ap (λ x. turned x l) none))
        (λ (z : eqb (node_of l) 0 ≡ false).
        let own = known z in
        ap (λ t. block_value value (output_block_by t (eqb (l % 2) 0) place (node_of l))) z
        ∙ copy_value (eqb (l % 2) 0) (value (node_name (node_of l))) (subst (λ (x : ℕ). x ≤ 1) own (s (plain (node_of l))))
        ∙ ap (λ x. turned x l) (sym own))
        (cases_Bool (eqb (node_of l) 0))

    outputs_known : (names : List ℕ) → Known names env → (place : ℕ) (ls : List ℕ) → every (output_lawful names) ls ≡ true → ((b : Block) → In b (output_blocks place ls) → value b.out ≡ block_value value b) → map value (map output_name (range_with_len place (length ls))) ≡ map (output_value (look env)) ls
    outputs_known names k place [] law sat = refl
    outputs_known names k place (l ∷ ls) law sat =
        let p = and_parts (output_lawful names l) (every (output_lawful names) ls) law in
        let own : eqb (node_of l) 0 ≡ false → look env (plain (node_of l)) ≡ value (node_name (node_of l)) =
        λ z. k (node_of l) (⊎_elim (λ t. absurd (both_ways _ z t)) (λ t. t) (or_cases (eqb (node_of l) 0) (mem (plain (node_of l)) names) p.0)) in
        let a = sat (output_block place l) (inl refl) ∙ output_block_lem place l own in
        let t = outputs_known names k (place + 1) ls p.1 (λ b i. sat b (inr i)) in
        cc

-- node 0 has no name, and so no value
none_bound : (n : ℕ) (is row : List ℕ) → rises n is ≡ true → look (bound (map plain is) row) 0 ≡ 0
none_bound n [] row r = refl
none_bound n (i ∷ is) [] r = refl
none_bound n (i ∷ is) (v ∷ row) r =
    let p = and_parts (ltb n i) (rises i is) r in
    let l = ltb-true n i p.0 in
    cond-false (eqb (plain i) 0) v _ (ne_eqb (plain i) 0 (λ (e : 2 * i ≡ 0). omega arith)) ∙ none_bound i is row p.1

none_after : (n : ℕ) (env : List (ℕ × ℕ)) (cs : List Cell) → rises n (map (λ c. c.root) cs) ≡ true → look env 0 ≡ 0 → look (after env cs) 0 ≡ 0
none_after n env [] r h = h
none_after n env (c ∷ cs) r h =
    let p = and_parts (ltb n c.root) (rises c.root (map (λ x. x.root) cs)) r in
    let l = ltb-true n c.root p.0 in
    none_after c.root ((root_name c, cell_value (look env) c) ∷ env) cs p.1
    (cond-false (eqb (root_name c) 0) (cell_value (look env) c) _ (ne_eqb (root_name c) 0 (λ (e : 2 * c.root ≡ 0). omega arith)) ∙ h)

-- the netlist's values under a row: 0 for node 0, and small
module _ (n : Netlist) (law : lawful_cover n ≡ true) (row : List ℕ) where
  pub settled_none : look (settled n row) 0 ≡ 0
  settled_none =
      let l = cover_says n law in
      none_after 0 (bound (map plain n.inputs) row) n.cells (and_parts (rises 0 (roots_of n)) _ l.roots_numbered).0
      (none_bound 0 n.inputs row (and_parts (rises 0 n.inputs) _ l.inputs_numbered).0)

  bound_start : Binary row → Small (bound (map plain n.inputs) row)
  bound_start b = λ x. bound_small (map plain n.inputs) row x 0 b (omega arith)

  pub settled_small : Binary row → Small (settled n row)
  settled_small b = small_after (bound (map plain n.inputs) row) n.cells (bound_start b)

pub means : (n : Netlist) → lawful_cover n ≡ true → Means n
means n law value sat b =
    let w = read_whole n in
    let l = cover_says n law in
    let row = map value (map node_name n.inputs) in
    let names = map plain n.inputs in
    let bs = map cell_block n.cells ++ output_blocks 0 n.outputs in
    let all : (x : Block) → In x bs → value x.out ≡ block_value value x = subst (λ (m : Model). Satisfies value m) w sat in
    let small : Binary row = subst (λ (m : Model). Binary (map value m.inputs)) w b in
    let k = cells_known value n.inputs names (bound names row) n.cells (inputs_known value n.inputs) (bound_start n law row small) l.cells_lawful_lem
    (λ c i. all (cell_block c) (in_append_left (cell_block c) (map cell_block n.cells) (output_blocks 0 n.outputs) (in_map cell_block c n.cells i))) in
    ap (λ m. map value m.outputs) w
    ∙ outputs_known value (settled n row) (settled_small n law row small) (settled_none n law row) (names_of n) k 0 n.outputs l.outputs_lawful
    (λ x i. all x (in_append_right x (map cell_block n.cells) (output_blocks 0 n.outputs) i))
    ∙ ap (λ m. answers n (map value m.inputs)) (sym w)

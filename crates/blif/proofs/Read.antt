-- What the cell list is read as.
use Rattle.std.proofs.Common.{◌≡◌, ℕ, zero, suc, ◌+◌, ◌-◌, ◌%◌, ◌^◌, Bool, true, false, cond, eqb, List, [], ◌∷◌, ◌++◌, map, length, codes, sym, refl, ap, ◌∙◌, subst, inl, inr, ⊎_elim, arith}
use Rattle.std.specs.List.{range_with_len, flat_map}
use Rattle.std.proofs.lemmas.List.{append-nil, append_assoc, length_push, take_at, get_or_push}
use Rattle.std.proofs.lemmas.Bool.{cond-false, ne_eqb}
use Rattle.drawing.specs.Drawing.{node_of}
use Rattle.drawing.proofs.Members.{in_append, map_in}
use Rattle.cells.specs.declared.cell.Cell.{Cell}
use Rattle.cells.specs.Netlist.{Netlist, leaves_of}
use Rattle.blif.specs.Text.{node_name, output_name, spaced, node_names, output_names, head_text, leaf_digits, line, on_rows, cell_text, output_texts}
use Rattle.blif.specs.Reading.{some_byte, lines_of, Block, Model, block, loose_row, read_line, read_lines, read_model, front, last}
use Rattle.blif.specs.Meaning.{whole_text}
use Rattle.blif.proofs.Pieces.{Word, Words, Free, line_at, words_spaced, free_append, free_spaced, some_append, name_word, digits_free, pieces_at}
use Rattle.blif.proofs.Texts.{spaced_push}

-- the words of the line of row m of n leaves
abbrev pub row_words : ℕ → ℕ → List (List ℕ)
row_words n m = cond (eqb n 0) (codes "1" ∷ []) (leaf_digits m n ∷ codes "1" ∷ [])

line_words : (n m : ℕ) (rest : List ℕ) → lines_of (line n m ++ rest) ≡ row_words n m ∷ lines_of rest
line_words zero m rest = refl
line_words (suc n) m rest =
    let ds = leaf_digits m (suc n) in
    let e : (ds ++ codes " 1\n") ++ rest ≡ (ds ++ codes " 1") ++ 10 ∷ rest = append_assoc ds (codes " 1\n") rest ∙ sym (append_assoc ds (codes " 1") (10 ∷ rest)) in
    let z = ne_eqb (suc n) 0 (λ q. omega arith) in
    ap (λ b. lines_of (cond b (codes "1\n") (ds ++ codes " 1\n") ++ rest)) z
    ∙ ap lines_of e
    ∙ line_at (ds ++ codes " 1") rest (free_append 10 ds (codes " 1") (digits_free 10 m (suc n) (omega arith)) refl) refl
    ∙ ap (λ ws. ws ∷ lines_of rest) (pieces_at 32 ds (codes "1") (digits_free 32 m (suc n) (omega arith)) refl)
    ∙ ap (λ b. cond b (codes "1" ∷ []) (ds ∷ codes "1" ∷ []) ∷ lines_of rest) (sym z)

lines_words : (n : ℕ) (ms rest : List ℕ) → lines_of (flat_map (line n) ms ++ rest) ≡ map (row_words n) ms ++ lines_of rest
lines_words n [] rest = refl
lines_words n (m ∷ ms) rest =
    ap lines_of (append_assoc (line n m) (flat_map (line n) ms) rest) ∙ line_words n m (flat_map (line n) ms ++ rest) ∙ ap (λ ls. row_words n m ∷ ls) (lines_words n ms rest)

-- rows wait for their block
abbrev rows_onto : List (List (List ℕ)) → Model → Model
rows_onto rows m = record { inputs = m.inputs; outputs = m.outputs; blocks = m.blocks; loose = rows ++ m.loose }

read_row : (n k : ℕ) (m : Model) → read_line (row_words n k) m ≡ loose_row (row_words n k) m
read_row zero k m = refl
read_row (suc n) k m =
    let z = ne_eqb (suc n) 0 (λ q. omega arith) in
    let w : List (List ℕ) = leaf_digits k (suc n) ∷ codes "1" ∷ [] in
    let e : row_words (suc n) k ≡ w = ap (λ b. cond b (codes "1" ∷ []) w) z in
    ap (λ x. read_line x m) e ∙ cond-false (eqb (48 + k % 2) 46) _ _ (ne_eqb (48 + k % 2) 46 (λ q. omega arith)) ∙ ap (λ x. loose_row x m) (sym e)

read_rows : (n : ℕ) (ms : List ℕ) (ls : List (List (List ℕ))) → read_lines (map (row_words n) ms ++ ls) ≡ rows_onto (map (row_words n) ms) (read_lines ls)
read_rows n [] ls = refl
read_rows n (m ∷ ms) ls = ap (read_line (row_words n m)) (read_rows n ms ls) ∙ read_row n m (rows_onto (map (row_words n) ms) (read_lines ls))

-- what stands behind the head has blocks alone
abbrev blocks_only : List Block → Model
blocks_only bs = record { inputs = []; outputs = []; blocks = bs; loose = [] }

nodes_words : (ns : List ℕ) → Words (map node_name ns)
nodes_words ns w i = let r = map_in node_name w ns i in subst Word r.2 (name_word 110 r.0 (omega arith))

outputs_words : (ks : List ℕ) → Words (map output_name ks)
outputs_words ks w i = let r = map_in output_name w ks i in subst Word r.2 (name_word 111 r.0 (omega arith))

names_word : Word (codes ".names")
names_word = record { whole = refl; lined = refl; there = refl }

-- a line of a command word and names
named_line : (a : List ℕ) (ws : List (List ℕ)) (rest : List ℕ) → Word a → Words ws → lines_of ((a ++ spaced ws) ++ 10 ∷ rest) ≡ (a ∷ ws) ∷ lines_of rest
named_line a ws rest p ps =
    line_at (a ++ spaced ws) rest (free_append 10 a (spaced ws) p.lined (free_spaced ws ps)) (some_append a (spaced ws) p.there)
    ∙ ap (λ x. x ∷ lines_of rest) (words_spaced a ws p ps)

-- a cell
abbrev pub cell_block : Cell → Block
cell_block c = record {
  ins = map node_name (leaves_of c);
  out = node_name c.root;
  rows = map (row_words (length (leaves_of c))) (on_rows c.table (2 ^ length (leaves_of c)));
}

block_push : (xs : List (List ℕ)) (x : List ℕ) (rows : List (List (List ℕ))) → block (xs ++ x ∷ []) rows ≡ record { ins = xs; out = x; rows = rows }
block_push xs x rows =
    let n = length (xs ++ x ∷ []) - 1 in
    let e : length xs ≡ n = omega (arith, length_push xs x) in
    let a : front (xs ++ x ∷ []) ≡ xs = take_at xs (x ∷ []) n e in
    let b : last (xs ++ x ∷ []) ≡ x = get_or_push xs x [] n e in
    cc

-- a line of the names of a block
header_line : (ws : List (List ℕ)) (h tail rest : List ℕ) → h ≡ codes ".names" ++ spaced ws → Words ws → lines_of ((h ++ 10 ∷ tail) ++ rest) ≡ (codes ".names" ∷ ws) ∷ lines_of (tail ++ rest)
header_line ws h tail rest e ps =
    ap lines_of (append_assoc h (10 ∷ tail) rest ∙ ap (λ x. x ++ 10 ∷ (tail ++ rest)) e) ∙ named_line (codes ".names") ws (tail ++ rest) names_word ps

push_words : (ws : List (List ℕ)) (w : List ℕ) → Words ws → Word w → Words (ws ++ w ∷ [])
push_words ws w ps p v i = ⊎_elim (λ j. ps v j) (λ j. ⊎_elim (λ (e : w ≡ v). subst Word e p) (λ k. elim k [ ]) j) (in_append v ws (w ∷ []) i)

read_cell : (c : Cell) (rest : List ℕ) (bs : List Block) → read_model rest ≡ blocks_only bs → read_model (cell_text c ++ rest) ≡ blocks_only (cell_block c ∷ bs)
read_cell c rest bs r =
    let ls = leaves_of c in
    let n = length ls in
    let ms = on_rows c.table (2 ^ n) in
    let ws = map node_name ls in
    let root = node_name c.root in
    let head = codes ".names" ++ node_names ls ++ (32 ∷ root) in
    let e : head ≡ codes ".names" ++ spaced (ws ++ root ∷ []) = append_assoc (codes ".names") (node_names ls) (32 ∷ root) ∙ ap (λ x. codes ".names" ++ x) (spaced_push ws root) in
    let a : cell_text c ++ rest ≡ (head ++ codes "\n") ++ (flat_map (line n) ms ++ rest) = append_assoc (head ++ codes "\n") (flat_map (line n) ms) rest in
    let l : lines_of (cell_text c ++ rest) ≡ (codes ".names" ∷ (ws ++ root ∷ [])) ∷ (map (row_words n) ms ++ lines_of rest) =
    ap lines_of a ∙ header_line (ws ++ root ∷ []) head [] (flat_map (line n) ms ++ rest) e (push_words ws root (nodes_words ls) (name_word 110 c.root (omega arith)))
    ∙ ap (λ x. (codes ".names" ∷ (ws ++ root ∷ [])) ∷ x) (lines_words n ms rest) in
    ap read_lines l
    ∙ ap (read_line (codes ".names" ∷ (ws ++ root ∷ []))) (read_rows n ms (lines_of rest) ∙ ap (rows_onto (map (row_words n) ms)) r)
    ∙ ap (λ b. blocks_only (b ∷ bs)) (block_push ws root (map (row_words n) ms ++ []) ∙ ap (λ rows. record { ins = ws; out = root; rows = rows }) (append-nil (map (row_words n) ms)))

-- an output: whether its node is 0, whether its literal is plain, its place, and its node
abbrev pub output_block_by : Bool → Bool → ℕ → ℕ → Block
output_block_by zeroth even k v = record {
  ins = cond zeroth [] (node_name v ∷ []);
  out = output_name k;
  rows = cond zeroth (cond even [] ((codes "1" ∷ []) ∷ [])) ((cond even (codes "1") (codes "0") ∷ codes "1" ∷ []) ∷ []);
}

abbrev pub output_block : ℕ → ℕ → Block
output_block k l = output_block_by (eqb (node_of l) 0) (eqb (l % 2) 0) k (node_of l)

module _ (k v : ℕ) (rest : List ℕ) (bs : List Block) (r : read_model rest ≡ blocks_only bs) where
  own_words : Words (output_name k ∷ [])
  own_words = outputs_words (k ∷ [])

  constant_head : codes ".names" ++ (32 ∷ output_name k) ≡ codes ".names" ++ spaced (output_name k ∷ [])
  constant_head = ap (λ x. codes ".names" ++ x) (spaced_push [] (output_name k))

  copy_head : codes ".names" ++ (32 ∷ node_name v) ++ (32 ∷ output_name k) ≡ codes ".names" ++ spaced (node_name v ∷ output_name k ∷ [])
  copy_head =
      append_assoc (codes ".names") (32 ∷ node_name v) (32 ∷ output_name k)
      ∙ ap (λ x. codes ".names" ++ ((32 ∷ node_name v) ++ x)) (spaced_push [] (output_name k))

  copy_words : Words (node_name v ∷ output_name k ∷ [])
  copy_words w (inl e) = subst Word e (name_word 110 v (omega arith))
  copy_words w (inr i) = own_words w i

  read_by : (zeroth even : Bool) → read_model (cond zeroth (codes ".names" ++ (32 ∷ output_name k) ++ cond even (codes "\n") (codes "\n1\n")) (codes ".names" ++ (32 ∷ node_name v) ++ (32 ∷ output_name k) ++ cond even (codes "\n1 1\n") (codes "\n0 1\n")) ++ rest) ≡ blocks_only (output_block_by zeroth even k v ∷ bs)
  read_by true true =
      ap read_lines (header_line (output_name k ∷ []) _ [] rest constant_head own_words) ∙ ap (read_line (codes ".names" ∷ output_name k ∷ [])) r
  read_by true false =
      ap read_lines (header_line (output_name k ∷ []) _ (codes "1\n") rest constant_head own_words)
      ∙ ap (λ m. read_line (codes ".names" ∷ output_name k ∷ []) (read_line (codes "1" ∷ []) m)) r
  read_by false true =
      ap read_lines (header_line (node_name v ∷ output_name k ∷ []) _ (codes "1 1\n") rest copy_head copy_words)
      ∙ ap (λ m. read_line (codes ".names" ∷ node_name v ∷ output_name k ∷ []) (read_line (codes "1" ∷ codes "1" ∷ []) m)) r
  read_by false false =
      ap read_lines (header_line (node_name v ∷ output_name k ∷ []) _ (codes "0 1\n") rest copy_head copy_words)
      ∙ ap (λ m. read_line (codes ".names" ∷ node_name v ∷ output_name k ∷ []) (read_line (codes "0" ∷ codes "1" ∷ []) m)) r

abbrev pub output_blocks : ℕ → List ℕ → List Block
output_blocks k [] = []
output_blocks k (l ∷ ls) = output_block k l ∷ output_blocks (k + 1) ls

abbrev whole : List (List ℕ) → List ℕ
whole ts = flat_map (λ text. text) ts

read_outputs : (k : ℕ) (os : List ℕ) → read_model (whole (output_texts k os ++ codes ".end\n" ∷ [])) ≡ blocks_only (output_blocks k os)
read_outputs k [] = refl
read_outputs k (l ∷ ls) = read_by k (node_of l) _ _ (read_outputs (k + 1) ls) (eqb (node_of l) 0) (eqb (l % 2) 0)

read_cells : (cs : List Cell) (ts : List (List ℕ)) (bs : List Block) → read_model (whole ts) ≡ blocks_only bs → read_model (whole (map cell_text cs ++ ts)) ≡ blocks_only (map cell_block cs ++ bs)
read_cells [] ts bs r = r
read_cells (c ∷ cs) ts bs r = read_cell c _ _ (read_cells cs ts bs r)

keyword : (a : List ℕ) → Free 32 a → Free 10 a → some_byte a ≡ true → Word a
keyword a f g h = record { whole = f; lined = g; there = h }

read_head : (is : List ℕ) (k : ℕ) (rest : List ℕ) (bs : List Block) → read_model rest ≡ blocks_only bs → read_model (head_text is k ++ rest) ≡ record { inputs = map node_name is; outputs = map output_name (range_with_len 0 k); blocks = bs; loose = [] }
read_head is k rest bs r =
    let ins = map node_name is in
    let outs = map output_name (range_with_len 0 k) in
    let P = codes ".model lutmap\n.inputs" ++ node_names is in
    let Q = codes "\n.outputs" in
    let N = output_names k in
    let E = codes "\n" in
    let a : head_text is k ++ rest ≡ P ++ (Q ++ (N ++ (E ++ rest))) =
    append_assoc (P ++ Q ++ N) E rest ∙ append_assoc (P ++ Q) N (E ++ rest) ∙ append_assoc P Q (N ++ (E ++ rest)) in
    let l : lines_of (head_text is k ++ rest) ≡ (codes ".model" ∷ codes "lutmap" ∷ []) ∷ (codes ".inputs" ∷ ins) ∷ (codes ".outputs" ∷ outs) ∷ lines_of rest =
    ap lines_of a
    ∙ ap (λ x. (codes ".model" ∷ codes "lutmap" ∷ []) ∷ x) (named_line (codes ".inputs") ins ((codes ".outputs" ++ spaced outs) ++ 10 ∷ rest) (keyword (codes ".inputs") refl refl refl) (nodes_words is))
    ∙ ap (λ x. (codes ".model" ∷ codes "lutmap" ∷ []) ∷ (codes ".inputs" ∷ ins) ∷ x) (named_line (codes ".outputs") outs rest (keyword (codes ".outputs") refl refl refl) (outputs_words (range_with_len 0 k))) in
    ap read_lines l
    ∙ ap (λ m. read_line (codes ".model" ∷ codes "lutmap" ∷ []) (read_line (codes ".inputs" ∷ ins) (read_line (codes ".outputs" ∷ outs) m))) r
    ∙ ap (λ x. record { inputs = x; outputs = outs ++ []; blocks = bs; loose = [] }) (append-nil ins)
    ∙ ap (λ x. record { inputs = ins; outputs = x; blocks = bs; loose = [] }) (append-nil outs)

-- the cell list is read as its inputs, its outputs, and a block for each cell and each output
pub read_whole : (n : Netlist) → read_model (whole_text n) ≡ record { inputs = map node_name n.inputs; outputs = map output_name (range_with_len 0 (length n.outputs)); blocks = map cell_block n.cells ++ output_blocks 0 n.outputs; loose = [] }
read_whole n = read_head n.inputs (length n.outputs) _ _ (read_cells n.cells _ _ (read_outputs 0 n.outputs))

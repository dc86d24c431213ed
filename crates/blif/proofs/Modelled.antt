-- Every row has values that satisfy the cell list.
use Rattle.std.proofs.Common.{◌≡◌, ℕ, ◌+◌, ◌-◌, ◌*◌, ◌/◌, ◌%◌, ◌<◌, ◌≤◌, true, false, cond, eqb, ltb, ◌⊎◌, List, [], ◌∷◌, ◌++◌, map, length, get_or, drop, sym, refl, ap, ◌∙◌, subst, inl, inr, ⊎_elim, arith}
use Rattle.std.proofs.lemmas.List.{append_assoc, get_or_at, length_push}
use Rattle.std.proofs.lemmas.Bool.{and_parts, or_cases, cond-true, cond-false, cond_both, eqb-true, eq-eqb, ne_eqb, both_ways, not-true, ltb-true}
use Rattle.drawing.specs.Sets.{mem, rises, In}
use Rattle.drawing.specs.Drawing.{node_of}
use Rattle.drawing.specs.Values.{Binary, bound}
use Rattle.drawing.proofs.Members.{every_in, in_map, in_mem, map_in, map_same, in_append}
use Rattle.drawing.proofs.SetLaws.{rises_mem}
use Rattle.cells.specs.declared.cell.Cell.{Cell}
use Rattle.cells.specs.Truth.{bit}
use Rattle.cells.specs.Netlist.{Netlist, leaves_of, plain, root_name, row_of, cell_value, look, after, settled, output_value, answers}
use Rattle.cells.specs.Laws.{cell_lawful, cells_lawful, roots_of, lawful_cover}
use Rattle.cells.proofs.Laws.{cell_says, cover_says}
use Rattle.cells.proofs.Names.{mem_plain}
use Rattle.blif.specs.Text.{number, node_name, output_name}
use Rattle.blif.specs.Reading.{Block, Model, block_value}
use Rattle.blif.specs.Meaning.{Satisfies, HasMeaning}
use Rattle.blif.proofs.Read.{cell_block, output_block, output_blocks, read_whole}
use Rattle.blif.proofs.Meanings.{cell_block_lem, output_block_lem, settled_none, settled_small}

-- a number by its digits
decode_from : ℕ → List ℕ → ℕ
decode_from a [] = a
decode_from a (d ∷ ds) = decode_from (10 * a + (d - 48)) ds

decode_number : (v : ℕ) → decode_from 0 (number v) ≡ v
unfolding decode_from
decode_number v =
    cond_both (ltb v 10) ((48 + v) ∷ []) _ (λ bs. decode_from 0 bs ≡ v) (λ _. omega arith)
    (λ _. cond_both (ltb v 100) ((48 + v / 10) ∷ (48 + v % 10) ∷ []) _ (λ bs. decode_from 0 bs ≡ v) (λ _. omega arith) (λ _. omega arith))

map_map : {X Y Z : Type 0} (f : X → Y) (g : Y → Z) (xs : List X) → map g (map f xs) ≡ map (λ x. g (f x)) xs
map_map f g [] = refl
map_map f g (x ∷ xs) = ap (λ ys. g (f x) ∷ ys) (map_map f g xs)

row_same_in : (f g : ℕ → ℕ) (ls : List ℕ) → ((l : ℕ) → In l ls → f (plain l) ≡ g (plain l)) → row_of f ls ≡ row_of g ls
row_same_in f g [] h = refl
row_same_in f g (l ∷ ls) h = let a = h l (inl refl) in let t = row_same_in f g ls (λ k i. h k (inr i)) in cc

-- what no cell gives a value to keeps its own
stays : (env : List (ℕ × ℕ)) (cs : List Cell) (l : ℕ) → ((c : Cell) → In c cs → root_name c ≡ l → ⊥) → look (after env cs) l ≡ look env l
stays env [] l h = refl
stays env (c ∷ cs) l h =
    stays ((root_name c, cell_value (look env) c) ∷ env) cs l (λ d i. h d (inr i)) ∙ cond-false (eqb (root_name c) l) _ _ (ne_eqb (root_name c) l (h c (inl refl)))

fresh_root : (inputs names : List ℕ) (cs : List Cell) → cells_lawful inputs names cs ≡ true → (c : Cell) → In c cs → mem c.root inputs ≡ false
fresh_root inputs names [] law c i = elim i [ ]
fresh_root inputs names (d ∷ cs) law c (inl e) =
    let p = and_parts (cell_lawful inputs names d) (cells_lawful inputs (root_name d ∷ names) cs) law in
    subst (λ (x : Cell). mem x.root inputs ≡ false) e (not-true (mem d.root inputs) (cell_says inputs names d p.0).fresh)
fresh_root inputs names (d ∷ cs) law c (inr i) =
    fresh_root inputs (root_name d ∷ names) cs (and_parts (cell_lawful inputs names d) (cells_lawful inputs (root_name d ∷ names) cs) law).1 c i

above_root : (r : ℕ) (cs : List Cell) → rises r (map (λ c. c.root) cs) ≡ true → (c : Cell) → In c cs → r < c.root
above_root r cs h c i = rises_mem r (map (λ x. x.root) cs) c.root h (in_mem c.root (map (λ x. x.root) cs) (in_map (λ x. x.root) c cs i))

-- what has a name so far is an input or a root up to r
abbrev Old : List ℕ → List ℕ → ℕ → Type 0
Old inputs names r = (v : ℕ) → mem (plain v) names ≡ true → (mem v inputs ≡ true) ⊎ (v ≤ r)

-- each root has the value that its cell has by all values together
module _ (inputs : List ℕ) where
  fixed : (names : List ℕ) (env : List (ℕ × ℕ)) (cs : List Cell) (r : ℕ) → cells_lawful inputs names cs ≡ true → rises r (map (λ c. c.root) cs) ≡ true → Old inputs names r → (c : Cell) → In c cs → look (after env cs) (root_name c) ≡ cell_value (look (after env cs)) c
  fixed names env [] r law up old c i = elim i [ ]
  fixed names env (d ∷ cs) r law up old c (inl e) =
      let p = and_parts (cell_lawful inputs names d) (cells_lawful inputs (root_name d ∷ names) cs) law in
      let q = and_parts (ltb r d.root) (rises d.root (map (λ x. x.root) cs)) up in
      let w = cell_value (look env) d in
      let final = after env (d ∷ cs) in
      let here : look final (root_name d) ≡ w =
      stays ((root_name d, w) ∷ env) cs (root_name d) (λ x j (g : 2 * x.root ≡ 2 * d.root). omega (arith, above_root d.root cs q.1 x j))
      ∙ cond-true (eqb (root_name d) (root_name d)) w _ (eq-eqb (root_name d) (root_name d) refl) in
      let leaf : (l : ℕ) → In l (leaves_of d) → look env (plain l) ≡ look final (plain l) = λ l j.
      sym (stays env (d ∷ cs) (plain l) (λ x g (k : 2 * x.root ≡ 2 * l).
      let same : x.root ≡ l = omega arith in
      ⊎_elim (λ t. both_ways (mem x.root inputs) (fresh_root inputs names (d ∷ cs) law x g) (ap (λ y. mem y inputs) same ∙ t))
      (λ (t : l ≤ r). omega (arith, above_root r (d ∷ cs) up x g))
      (old l (every_in (λ y. mem (plain y) names) l (leaves_of d) (cell_says inputs names d p.0).leaves_known j)))) in
      let own : look final (root_name d) ≡ cell_value (look final) d = here ∙ ap (bit d.table) (row_same_in (look env) (look final) (leaves_of d) leaf) in
      subst (λ (x : Cell). look final (root_name x) ≡ cell_value (look final) x) e own
  fixed names env (d ∷ cs) r law up old c (inr i) =
      let p = and_parts (cell_lawful inputs names d) (cells_lawful inputs (root_name d ∷ names) cs) law in
      let q = and_parts (ltb r d.root) (rises d.root (map (λ x. x.root) cs)) up in
      let l = ltb-true r d.root q.0 in
      fixed (root_name d ∷ names) ((root_name d, cell_value (look env) d) ∷ env) cs d.root p.1 q.1
      (λ v m. ⊎_elim (λ t. let e : 2 * v ≡ 2 * d.root = eqb-true (plain v) (root_name d) t in inr (omega arith)) (λ t. ⊎_elim (λ a. inl a) (λ (a : v ≤ r). inr (omega arith)) (old v t)) (or_cases (eqb (plain v) (root_name d)) (mem (plain v) names) m)) c i

-- the inputs have the row's values
bound_row : (n : ℕ) (is row : List ℕ) → rises n is ≡ true → length row ≡ length is → map (λ i. look (bound (map plain is) row) (plain i)) is ≡ row
bound_row n [] [] up e = refl
bound_row n [] (v ∷ row) up e = absurd (omega arith)
bound_row n (i ∷ is) [] up e = absurd (omega arith)
bound_row n (i ∷ is) (v ∷ row) up e =
    let p = and_parts (ltb n i) (rises i is) up in
    let env = bound (map plain is) row in
    let a : look ((plain i, v) ∷ env) (plain i) ≡ v = cond-true (eqb (plain i) (plain i)) v _ (eq-eqb (plain i) (plain i) refl) in
    let t : map (λ k. look ((plain i, v) ∷ env) (plain k)) is ≡ row =
    map_same (λ k. look ((plain i, v) ∷ env) (plain k)) (λ k. look env (plain k)) is
    (λ k m. cond-false (eqb (plain i) (plain k)) v _ (ne_eqb (plain i) (plain k) (λ (g : 2 * i ≡ 2 * k). omega (arith, rises_mem i is k p.1 (in_mem k is m)))))
    ∙ bound_row i is row p.1 (omega arith) in
    cc

module _ (n : Netlist) (law : lawful_cover n ≡ true) (row : List ℕ) (b : Binary row) (long : length row ≡ length n.inputs) where
  abbrev env : List (ℕ × ℕ)
  env = settled n row

  -- a node's name has the node's value, and an output's name what the netlist answers
  abbrev value : List ℕ → ℕ
  value name = cond (eqb (get_or name 0 0) 110) (look env (plain (decode_from 0 (drop 1 name)))) (get_or (answers n row) (decode_from 0 (drop 1 name)) 0)

  value_node : (v : ℕ) → value (node_name v) ≡ look env (plain v)
  value_node v = ap (λ k. look env (plain k)) (decode_number v)

  value_output : (k : ℕ) → value (output_name k) ≡ get_or (answers n row) k 0
  value_output k = ap (λ j. get_or (answers n row) j 0) (decode_number k)

  inputs_have : map value (map node_name n.inputs) ≡ row
  inputs_have =
      let l = cover_says n law in
      let start = bound (map plain n.inputs) row in
      map_map node_name value n.inputs
      ∙ map_same (λ i. value (node_name i)) (λ i. look start (plain i)) n.inputs
      (λ i m. value_node i ∙ stays start n.cells (plain i) (λ c j (g : 2 * c.root ≡ 2 * i).
      let same : c.root ≡ i = omega arith in
      both_ways (mem c.root n.inputs) (fresh_root n.inputs (map plain n.inputs) n.cells l.cells_lawful_lem c j) (ap (λ y. mem y n.inputs) same ∙ in_mem i n.inputs m)))
      ∙ bound_row 0 n.inputs row (and_parts (rises 0 n.inputs) _ l.inputs_numbered).0 long

  cell_holds : (c : Cell) → In c n.cells → value (node_name c.root) ≡ block_value value (cell_block c)
  cell_holds c i =
      let l = cover_says n law in
      let names = map plain n.inputs in
      let old : Old n.inputs names 0 = λ v m. let r = mem_plain n.inputs (plain v) m in let e : v ≡ r.0 = omega (arith, r.1) in inl (rw e r.2) in
      value_node c.root
      ∙ fixed n.inputs names (bound names row) n.cells 0 l.cells_lawful_lem (and_parts (rises 0 (roots_of n)) _ l.roots_numbered).0 old c i
      ∙ sym (cell_block_lem value env (settled_small n law row b) c (λ x j. sym (value_node x)))

  outputs_hold : (front ls : List ℕ) (place : ℕ) → length front ≡ place → answers n row ≡ front ++ map (output_value (look env)) ls → (x : Block) → In x (output_blocks place ls) → value x.out ≡ block_value value x
  outputs_hold front [] place e a x i = elim i [ ]
  outputs_hold front (l ∷ ls) place e a x (inl g) =
      let own : value (output_name place) ≡ block_value value (output_block place l) =
      value_output place ∙ ap (λ vs. get_or vs place 0) a ∙ get_or_at front (output_value (look env) l) (map (output_value (look env)) ls) 0 place e
      ∙ sym (output_block_lem value env (settled_small n law row b) (settled_none n law row) place l (λ z. sym (value_node (node_of l)))) in
      subst (λ (y : Block). value y.out ≡ block_value value y) g own
  outputs_hold front (l ∷ ls) place e a x (inr i) =
      let v = output_value (look env) l in
      outputs_hold (front ++ v ∷ []) ls (place + 1) (length_push front v ∙ ap (λ k. k + 1) e) (a ∙ sym (append_assoc front (v ∷ []) (map (output_value (look env)) ls))) x i

  all_hold : (x : Block) → In x (map cell_block n.cells ++ output_blocks 0 n.outputs) → value x.out ≡ block_value value x
  all_hold x i =
      ⊎_elim (λ j. let r = map_in cell_block x n.cells j in subst (λ (y : Block). value y.out ≡ block_value value y) r.2 (cell_holds r.0 r.1))
      (λ j. outputs_hold [] n.outputs 0 refl refl x j)
      (in_append x (map cell_block n.cells) (output_blocks 0 n.outputs) i)

pub has_meaning : (n : Netlist) → lawful_cover n ≡ true → HasMeaning n
has_meaning n law row b long =
    let w = sym (read_whole n) in
    let v = value n law row b long in (
      v,
      subst (λ (m : Model). Satisfies v m) w (all_hold n law row b long),
      ap (λ m. map v m.inputs) (sym w) ∙ inputs_have n law row b long,
    )

-- What the laws of a cover say, and that one more input, cell or output keeps them.
use Rattle.std.proofs.Common.{◌≡◌, ℕ, ◌<◌, ◌≤◌, true, false, not, ◌&&◌, eqb, ltb, leb, List, [], ◌∷◌, ◌++◌, map, length, refl, ap, ◌∙◌, subst, ⊎_elim, arith}
use Rattle.std.proofs.lemmas.List.{map_push}
use Rattle.std.proofs.lemmas.Bool.{and_parts, and_from, or_cases, or_left, or_right, le-leb, lt-ltb, eqb-true, not_from_false}
use Rattle.drawing.specs.declared.node.Node.{Node}
use Rattle.std.specs.List.{range_with_len}
use Rattle.drawing.specs.Sets.{every, mem, rises, below, In}
use Rattle.drawing.specs.Drawing.{node_of, most_nodes}
use Rattle.drawing.proofs.Members.{every_in, in_every, in_counting}
use Rattle.drawing.proofs.Lists.{every_push, rises_push}
use Rattle.cells.specs.declared.cell.Cell.{Cell}
use Rattle.drawing.specs.Drawing.{most_leaves}
use Rattle.cells.specs.Limits.{table_bits}
use Rattle.cells.specs.Truth.{bit, table_bit, filled}
use Rattle.cells.specs.Netlist.{Netlist, netlist, empty_netlist, with_input, with_cell, with_output, leaves_of, cell_of, plain, root_name}
use Rattle.cells.specs.Laws.{known, cell_lawful, names_after, cells_lawful, output_lawful, roots_of, names_of, numbered, lawful_cover, TablesFilled}
use Rattle.drawing.proofs.SetLaws.{below_says}
use Rattle.cells.proofs.Names.{named_is}
use Rattle.cells.proofs.Tables.{table_filled, leaves_of_cell}

-- the parts of the law of a cell
pub record CellLaws (inputs names : List ℕ) (c : Cell) : Type 0 where
  pub few : leb c.count most_leaves ≡ true
  pub fresh : not (mem c.root inputs) ≡ true
  pub rising : rises 0 (leaves_of c) ≡ true
  pub leaves_known : known names (leaves_of c) ≡ true
  pub full : filled c.count c.table ≡ true

pub cell_says : (inputs names : List ℕ) (c : Cell) → cell_lawful inputs names c ≡ true → CellLaws inputs names c
cell_says inputs names c h =
    let p = and_parts (leb c.count most_leaves && not (mem c.root inputs) && rises 0 (leaves_of c) && known names (leaves_of c)) (filled c.count c.table) h in
    let q = and_parts (leb c.count most_leaves && not (mem c.root inputs) && rises 0 (leaves_of c)) (known names (leaves_of c)) p.0 in
    let r = and_parts (leb c.count most_leaves && not (mem c.root inputs)) (rises 0 (leaves_of c)) q.0 in
    let s = and_parts (leb c.count most_leaves) (not (mem c.root inputs)) r.0 in
    record { few = s.0; fresh = s.1; rising = r.1; leaves_known = q.1; full = p.1 }

pub says_cell : (inputs names : List ℕ) (c : Cell) → CellLaws inputs names c → cell_lawful inputs names c ≡ true
says_cell inputs names c l =
    and_from _ _ (and_from _ _ (and_from _ _ (and_from _ _ l.few l.fresh) l.rising) l.leaves_known) l.full

-- the parts of the law of a cover
pub record CoverLaws (n : Netlist) : Type 0 where
  pub inputs_numbered : numbered n.inputs ≡ true
  pub roots_numbered : numbered (roots_of n) ≡ true
  pub cells_lawful_lem : cells_lawful n.inputs (map plain n.inputs) n.cells ≡ true
  pub outputs_lawful : every (output_lawful (names_of n)) n.outputs ≡ true

pub cover_says : (n : Netlist) → lawful_cover n ≡ true → CoverLaws n
unfolding lawful_cover
cover_says n h =
    let cells = cells_lawful n.inputs (map plain n.inputs) n.cells in
    let p = and_parts (numbered n.inputs && numbered (roots_of n) && cells) (every (output_lawful (names_of n)) n.outputs) h in
    let q = and_parts (numbered n.inputs && numbered (roots_of n)) cells p.0 in
    let r = and_parts (numbered n.inputs) (numbered (roots_of n)) q.0 in
    record { inputs_numbered = r.0; roots_numbered = r.1; cells_lawful_lem = q.1; outputs_lawful = p.1 }

pub says_cover : (n : Netlist) → CoverLaws n → lawful_cover n ≡ true
unfolding lawful_cover
says_cover n l = and_from _ _ (and_from _ _ (and_from _ _ l.inputs_numbered l.roots_numbered) l.cells_lawful_lem) l.outputs_lawful

lawful_empty : lawful_cover empty_netlist ≡ true
unfolding lawful_cover
lawful_empty = refl

pub lawful_bare : (is : List ℕ) (cs : List Cell) (os : List ℕ) → is ≡ [] → cs ≡ [] → os ≡ [] → lawful_cover (netlist is cs os) ≡ true
lawful_bare is cs os a b c =
    ap (λ xs. lawful_cover (netlist xs cs os)) a ∙ ap (λ xs. lawful_cover (netlist [] xs os)) b ∙ ap (λ xs. lawful_cover (netlist [] [] xs)) c ∙ lawful_empty

numbered_push : (xs : List ℕ) (v : ℕ) → numbered xs ≡ true → 0 < v → v < most_nodes → below v xs ≡ true → numbered (xs ++ v ∷ []) ≡ true
numbered_push xs v h pos few b =
    let p = and_parts (rises 0 xs) (below most_nodes xs) h in
    and_from _ _ (rises_push 0 xs v p.0 pos b) (every_push (λ x. ltb x most_nodes) xs v p.1 (lt-ltb v most_nodes few))

-- one input more, before any cell or output
pub lawful_input : (n : Netlist) (number : ℕ) → lawful_cover n ≡ true → n.cells ≡ [] → n.outputs ≡ [] → 0 < number → number < most_nodes → below number n.inputs ≡ true → lawful_cover (with_input n number) ≡ true
lawful_input n number h c o pos few b =
    let l = cover_says n h in
    says_cover (with_input n number) record {
      inputs_numbered = numbered_push n.inputs number l.inputs_numbered pos few b;
      roots_numbered = l.roots_numbered;
      cells_lawful_lem = ap (cells_lawful (n.inputs ++ number ∷ []) (map plain (n.inputs ++ number ∷ []))) c;
      outputs_lawful = ap (every (output_lawful (names_of (with_input n number)))) o;
    }

-- one cell more
pub names_push : (names : List ℕ) (cs : List Cell) (c : Cell) → names_after names (cs ++ c ∷ []) ≡ root_name c ∷ names_after names cs
names_push names [] c = refl
names_push names (d ∷ cs) c = names_push (root_name d ∷ names) cs c

cells_push : (inputs names : List ℕ) (cs : List Cell) (c : Cell) → cells_lawful inputs names cs ≡ true → cell_lawful inputs (names_after names cs) c ≡ true → cells_lawful inputs names (cs ++ c ∷ []) ≡ true
cells_push inputs names [] c h k = and_from (cell_lawful inputs names c) true k refl
cells_push inputs names (d ∷ cs) c h k =
    let p = and_parts (cell_lawful inputs names d) (cells_lawful inputs (root_name d ∷ names) cs) h in
    and_from (cell_lawful inputs names d) _ p.0 (cells_push inputs (root_name d ∷ names) cs c p.1 k)

output_wider : (names : List ℕ) (r l : ℕ) → output_lawful names l ≡ true → output_lawful (r ∷ names) l ≡ true
output_wider names r l h =
    let v = plain (node_of l) in
    ⊎_elim (λ z. or_left (eqb (node_of l) 0) (mem v (r ∷ names)) z) (λ z. or_right (eqb (node_of l) 0) (mem v (r ∷ names)) (or_right (eqb v r) (mem v names) z)) (or_cases (eqb (node_of l) 0) (mem v names) h)

pub lawful_cell : (n : Netlist) (c : Cell) → lawful_cover n ≡ true → 0 < c.root → c.root < most_nodes → below c.root (roots_of n) ≡ true → cell_lawful n.inputs (names_of n) c ≡ true → lawful_cover (with_cell n c) ≡ true
lawful_cell n c h pos few b k =
    let l = cover_says n h in
    let names = map plain n.inputs in
    says_cover (with_cell n c) record {
      inputs_numbered = l.inputs_numbered;
      roots_numbered = ap numbered (map_push (λ x. x.root) n.cells c) ∙ numbered_push (roots_of n) c.root l.roots_numbered pos few b;
      cells_lawful_lem = cells_push n.inputs names n.cells c l.cells_lawful_lem k;
      outputs_lawful = ap (λ ns. every (output_lawful ns) n.outputs) (names_push names n.cells c) ∙ in_every (output_lawful (root_name c ∷ names_of n)) n.outputs (λ o i. output_wider (names_of n) (root_name c) o (every_in (output_lawful (names_of n)) o n.outputs l.outputs_lawful i));
    }

-- one output more
pub lawful_output : (n : Netlist) (o : ℕ) → lawful_cover n ≡ true → output_lawful (names_of n) o ≡ true → lawful_cover (with_output n o) ≡ true
lawful_output n o h k =
    let l = cover_says n h in
    says_cover (with_output n o) record {
      inputs_numbered = l.inputs_numbered;
      roots_numbered = l.roots_numbered;
      cells_lawful_lem = l.cells_lawful_lem;
      outputs_lawful = every_push (output_lawful (names_of n)) n.outputs o l.outputs_lawful k;
    }

-- the cell of a gate keeps the law
pub gate_lawful : (inputs names : List ℕ) (nodes : List Node) (root : ℕ) (ls : List ℕ) → length ls ≤ most_leaves → mem root inputs ≡ false → rises 0 ls ≡ true → known names ls ≡ true → cell_lawful inputs names (cell_of nodes root ls) ≡ true
gate_lawful inputs names nodes root ls few new up k =
    let e = leaves_of_cell nodes root ls in
    says_cell inputs names (cell_of nodes root ls) record {
      few = le-leb (length ls) most_leaves few;
      fresh = not_from_false (mem root inputs) new;
      rising = ap (rises 0) e ∙ up;
      leaves_known = ap (known names) e ∙ k;
      full = table_filled nodes ls root few;
    }

-- a name's number is below the most nodes
named_below : (n : Netlist) (v : ℕ) → lawful_cover n ≡ true → mem (plain v) (names_of n) ≡ true → v < most_nodes
named_below n v h m =
    let l = cover_says n h in
    ⊎_elim (λ t. below_says most_nodes n.inputs v (and_parts (rises 0 n.inputs) _ l.inputs_numbered).1 t)
    (λ t. below_says most_nodes (roots_of n) v (and_parts (rises 0 (roots_of n)) _ l.roots_numbered).1 t)
    (named_is n v m)

-- outputs are literals of nodes
pub cover_outputs : (n : Netlist) → lawful_cover n ≡ true → every (λ l. ltb (node_of l) most_nodes) n.outputs ≡ true
cover_outputs n h =
    in_every (λ l. ltb (node_of l) most_nodes) n.outputs
    (λ o i. lt-ltb (node_of o) most_nodes
    (⊎_elim (λ z. omega (arith, eqb-true (node_of o) 0 z)) (λ z. named_below n (node_of o) h z)
    (or_cases (eqb (node_of o) 0) (mem (plain (node_of o)) (names_of n)) (every_in (output_lawful (names_of n)) o n.outputs (cover_says n h).outputs_lawful i))))

-- each cell of a lawful netlist has its table filled
cells_filled : (inputs names : List ℕ) (cs : List Cell) (c : Cell) → cells_lawful inputs names cs ≡ true → In c cs → filled c.count c.table ≡ true
cells_filled inputs names [] c h i = absurd i
cells_filled inputs names (d ∷ ds) c h i =
    let p = and_parts (cell_lawful inputs names d) (cells_lawful inputs (root_name d ∷ names) ds) h in
    ⊎_elim
    (λ (e : d ≡ c). subst (λ (x : Cell). filled x.count x.table ≡ true) e (cell_says inputs names d p.0).full)
    (λ (e : In c ds). cells_filled inputs (root_name d ∷ names) ds c p.1 e)
    i

pub tables_filled : TablesFilled
unfolding filled
tables_filled n c m h i l =
    let f = cells_filled n.inputs (map plain n.inputs) n.cells c (cover_says n h).cells_lawful_lem i in
    eqb-true _ _ (every_in (λ k. eqb (bit c.table k) (table_bit c.count (bit c.table) k)) m (range_with_len 0 table_bits) f (in_counting 0 table_bits m (omega arith) (omega arith)))

-- A lawful netlist that covers a drawing has the drawing's values.
use Rattle.std.proofs.Common.{◌≡◌, ℕ, zero, suc, ◌+◌, ◌*◌, ◌/◌, ◌%◌, ◌<◌, ◌≤◌, true, false, cond, ◌||◌, eqb, List, [], ◌∷◌, map, length, get_or, take, sym, refl, ap, ◌∙◌, subst, inl, inr, ⊎_elim, mod-eq_of_lt, arith}
use native.Mathlib.Nat.{add-mul-mod_self_left}
use Rattle.std.proofs.lemmas.List.{get_or-take, get_or_past, length-take}
use Rattle.std.proofs.lemmas.Bool.{cases_lt, cases_eq, cases_Bool, eqb-true, eq-eqb, ne_eqb, cond-true, cond-false, cond_both, both_ways, and_parts, or_cases, or_parts, or_left, leb-true}
use Rattle.drawing.specs.declared.node.Node.{Node}
use Rattle.drawing.specs.declared.node.Node.TheVariants.{Constant, Input, Gate}
use Rattle.drawing.specs.Sets.{every, mem, In}
use Rattle.drawing.specs.Column.{column}
use Rattle.drawing.specs.Drawing.{at, node_of, fanins, is_gate, sound}
use Rattle.drawing.specs.Values.{Binary, turned, literal, valuing, inputs_of, lookup, bound, values}
use Rattle.drawing.proofs.Members.{every_in}
use Rattle.drawing.proofs.ColumnLaws.{column_at, length_lower}
use Rattle.drawing.proofs.Sound.{fanins_below_lem}
use Rattle.drawing.proofs.ValueLaws.{literal_small, values_small, first_constant, first_value}
use Rattle.drawing.proofs.InputLaws.{input_at}
use Rattle.cuts.specs.Cuts.{closes, cut, closes_fanins}
use Rattle.cuts.proofs.Closing.{zeroth, member, through, closes_range, closes_ways, closes_by}
use Rattle.cells.specs.declared.cell.Cell.{Cell}
use Rattle.drawing.specs.Drawing.{most_leaves}
use Rattle.cells.specs.Truth.{bit, leaf_bits, unset, coning}
use Rattle.cells.specs.Netlist.{leaves_of, plain, root_name, row_of, cell_value, look, after, settled, output_value}
use Rattle.cells.specs.Laws.{cell_lawful, names_after, cells_lawful, output_lawful, names_of}
use Rattle.cells.specs.Covers.{Suits, AllSuit, CoversAgree}
use Rattle.cells.proofs.Tables.{table_row}
use Rattle.cells.proofs.LeafRows.{row_lt}
use Rattle.cells.proofs.Names.{mem_plain}
use Rattle.cells.proofs.Laws.{cell_says, cover_says}

-- nodes with their values
abbrev valued : List ℕ → List ℕ → List (ℕ × ℕ)
valued V [] = []
valued V (l ∷ ls) = (l, get_or V l 0) ∷ valued V ls

valued_in : (V ls : List ℕ) (n d : ℕ) → mem n ls ≡ true → lookup (valued V ls) n d ≡ get_or V n 0
valued_in V [] n d h = absurd (both_ways false refl h)
valued_in V (l ∷ ls) n d h =
    ⊎_elim (λ (e : l ≡ n). cond-true (eqb l n) _ _ (eq-eqb l n e) ∙ ap (λ k. get_or V k 0) e)
    (λ (e : l ≡ n → ⊥).
    cond-false (eqb l n) _ _ (ne_eqb l n e)
    ∙ valued_in V ls n d (⊎_elim (λ (t : eqb n l ≡ true). absurd (e (sym (eqb-true n l t)))) (λ t. t) (or_cases (eqb n l) (mem n ls) h)))
    (cases_eq l n)

valued_out : (V ls : List ℕ) (n d : ℕ) → mem n ls ≡ false → lookup (valued V ls) n d ≡ d
valued_out V [] n d h = refl
valued_out V (l ∷ ls) n d h =
    let p = or_parts (eqb n l) (mem n ls) h in
    cond-false (eqb l n) _ _ (ne_eqb l n (λ e. both_ways (eqb n l) p.0 (eq-eqb n l (sym e)))) ∙ valued_out V ls n d p.1

-- What the leaves close has the drawing's value once the leaves have theirs.
module _ (given : ℕ → ℕ) (nodes : List Node) (right : sound nodes ≡ true) (ls : List ℕ) where
  abbrev V : List ℕ
  V = column (valuing given) nodes

  abbrev W : List ℕ
  W = column (coning (valued V ls)) nodes

  literal_same : (n l : ℕ) → node_of l < n → get_or W (node_of l) 0 ≡ get_or V (node_of l) 0 → literal (take n W) l ≡ literal (take n V) l
  literal_same n l b e = ap (λ v. turned v l) (get_or-take n W (node_of l) 0 b ∙ e ∙ sym (get_or-take n V (node_of l) 0 b))

  gate_same : (n : ℕ) (node : Node) → is_gate node ≡ true → ((f : ℕ) → In f (fanins node) → (f < n) × (get_or W f 0 ≡ get_or V f 0)) → valuing unset (take n W) node ≡ valuing given (take n V) node
  gate_same n Constant g same = absurd (both_ways false refl g)
  gate_same n Input g same = absurd (both_ways false refl g)
  gate_same n (Gate p) g same =
      let a = same (node_of p.left) (inl refl) in
      let b = same (node_of p.right) (inr (inl refl)) in
      let x = literal_same n p.left a.0 a.1 in
      let y = literal_same n p.right b.0 b.1 in
      cc

  constant_same : (n : ℕ) (node : Node) → node ≡ Constant → valuing unset (take n W) node ≡ valuing given (take n V) node
  constant_same n node e = ap (valuing unset (take n W)) e ∙ sym (ap (valuing given (take n V)) e)

  closed_same : (limit n : ℕ) → n < limit → closes nodes ls n ≡ true → get_or W n 0 ≡ get_or V n 0
  closed_same zero n l h = absurd (omega arith)
  closed_same (suc limit) n l h =
      let r = closes_range nodes ls n h in
      let node = at nodes n in
      let own = valuing unset (take n W) node in
      let w : get_or W n 0 ≡ lookup (valued V ls) n own =
      column_at (coning (valued V ls)) nodes n 0 Constant r ∙ ap (λ k. lookup (valued V ls) k own) (length_lower (coning (valued V ls)) nodes n (omega arith)) in
      let v : get_or V n 0 ≡ valuing given (take n V) node = column_at (valuing given) nodes n 0 Constant r in
      ⊎_elim
      (λ (i : mem n ls ≡ true). w ∙ valued_in V ls n own i)
      (λ (i : mem n ls ≡ false).
      w ∙ valued_out V ls n own i
      ∙ elim (closes_ways nodes ls n right h) [
        | zeroth e ↦ constant_same n node (ap (at nodes) e ∙ first_constant nodes right)
        | member m ↦ absurd (both_ways (mem n ls) i m)
        | through g f ↦ gate_same n node g (λ k m. let b = fanins_below_lem nodes n k right r m in (b, closed_same limit k (omega arith) (f k m)))
      ]
      ∙ sym v)
      (cases_Bool (mem n ls))

-- a cut of a gate closes the gate
pub cut_closes : (nodes : List Node) (v : ℕ) (ls : List ℕ) → sound nodes ≡ true → v < length nodes → is_gate (at nodes v) ≡ true → cut nodes v ls ≡ true → closes nodes ls v ≡ true
unfolding cut closes_fanins
cut_closes nodes v ls d l g h =
    closes_by nodes ls v d l (through g (λ f m. every_in (closes nodes ls) f (fanins (at nodes v)) (and_parts _ (every (closes nodes ls) (fanins (at nodes v))) h).1 m))

-- the plain literal of a node has the node's value
literal_plain : (V : List ℕ) (n : ℕ) → literal V (plain n) ≡ get_or V n 0
literal_plain V n =
    let e : 2 * n / 2 ≡ n = omega arith in
    let z : 2 * n % 2 ≡ 0 = omega arith in
    cond-true (eqb (2 * n % 2) 0) _ _ (eq-eqb _ 0 z) ∙ ap (λ k. get_or V k 0) e

-- What is known has the drawing's value, and nothing else has a value.
abbrev Knows : List ℕ → List ℕ → List (ℕ × ℕ) → Type 0
Knows V names env = (l : ℕ) → look env l ≡ cond (mem l names) (literal V l) 0

knows_small : (V names : List ℕ) (env : List (ℕ × ℕ)) → Binary V → Knows V names env → (l : ℕ) → look env l ≤ 1
knows_small V names env b k l =
    rw (k l) (cond_both (mem l names) (literal V l) 0 (λ x. x ≤ 1) (λ _. literal_small V l b) (λ _. omega arith))

knows_node : (V names : List ℕ) (env : List (ℕ × ℕ)) → Knows V names env → (n : ℕ) → mem (plain n) names ≡ true → look env (plain n) ≡ get_or V n 0
knows_node V names env k n h = k (plain n) ∙ cond-true (mem (plain n) names) _ _ h ∙ literal_plain V n

knows_more : (V names : List ℕ) (env : List (ℕ × ℕ)) (r v : ℕ) → Knows V names env → v ≡ literal V r → Knows V (r ∷ names) ((r, v) ∷ env)
knows_more V names env r v k e l =
    ⊎_elim
    (λ (h : r ≡ l).
    cond-true (eqb r l) v _ (eq-eqb r l h) ∙ e ∙ ap (literal V) h ∙ sym (cond-true (eqb l r || mem l names) _ _ (or_left (eqb l r) _ (eq-eqb l r (sym h)))))
    (λ (h : r ≡ l → ⊥).
    cond-false (eqb r l) v _ (ne_eqb r l h) ∙ k l ∙ ap (λ x. cond (x || mem l names) (literal V l) 0) (sym (ne_eqb l r (λ q. h (sym q)))))
    (cases_eq r l)

-- from the row of the leaves' values back to the values
leaves_row : (f : ℕ → ℕ) (V : List ℕ) → Binary V → (ls : List ℕ) → ((l : ℕ) → In l ls → f (plain l) ≡ get_or V l 0) → leaf_bits ls (row_of f ls) ≡ valued V ls
leaves_row f V b [] a = refl
leaves_row f V b (l ∷ ls) a =
    let v = get_or V l 0 in
    let r = row_of f ls in
    let h : v < 2 = omega (arith, b l) in
    let e : f (plain l) + 2 * r ≡ v + 2 * r = ap (λ x. x + 2 * r) (a l (inl refl)) in
    let p : (f (plain l) + 2 * r) % 2 ≡ v = ap (λ x. x % 2) e ∙ add-mul-mod_self_left v 2 r ∙ mod-eq_of_lt h in
    let q : (f (plain l) + 2 * r) / 2 ≡ r = ap (λ x. x / 2) e ∙ omega arith in
    let t = leaves_row f V b ls (λ k m. a k (inr m)) in
    ap (λ x. (l, x) ∷ leaf_bits ls ((f (plain l) + 2 * r) / 2)) p ∙ ap (λ x. (l, v) ∷ leaf_bits ls x) q ∙ ap (λ xs. (l, v) ∷ xs) t

module _ (given : ℕ → ℕ) (nodes : List Node) (right : sound nodes ≡ true) (b : Binary (column (valuing given) nodes)) where
  abbrev drawn : List ℕ
  drawn = column (valuing given) nodes

  cell_agrees : (inputs names : List ℕ) (env : List (ℕ × ℕ)) (c : Cell) → Knows drawn names env → cell_lawful inputs names c ≡ true → Suits nodes c → cell_value (look env) c ≡ literal drawn (root_name c)
  cell_agrees inputs names env c k h s =
      let ls = leaves_of c in
      let r = row_of (look env) ls in
      let l = cell_says inputs names c h in
      let few : length ls ≤ most_leaves = simp length-take (omega (arith, leb-true c.count most_leaves l.few)) in
      ap (λ t. bit t r) s.table
      ∙ table_row nodes ls c.root r few (row_lt (look env) (knows_small drawn names env b k) ls)
      ∙ ap (λ e. get_or (column (coning e) nodes) c.root 0) (leaves_row (look env) drawn b ls (λ n m. knows_node drawn names env k n (every_in (λ x. mem (plain x) names) n ls l.leaves_known m)))
      ∙ closed_same given nodes right ls (suc c.root) c.root (omega arith) s.closing
      ∙ sym (literal_plain drawn c.root)

  cells_agree : (inputs names : List ℕ) (env : List (ℕ × ℕ)) (cs : List Cell) → Knows drawn names env → cells_lawful inputs names cs ≡ true → AllSuit nodes cs → Knows drawn (names_after names cs) (after env cs)
  cells_agree inputs names env [] k h a = k
  cells_agree inputs names env (c ∷ cs) k h a =
      let p = and_parts (cell_lawful inputs names c) (cells_lawful inputs (root_name c ∷ names) cs) h in
      cells_agree inputs (root_name c ∷ names) ((root_name c, cell_value (look env) c) ∷ env) cs
      (knows_more drawn names env (root_name c) (cell_value (look env) c) k (cell_agrees inputs names env c k p.0 (a c (inl refl)))) p.1 (λ d i. a d (inr i))

-- The inputs, by their plain literals.
bound_plain : (ns row : List ℕ) (n : ℕ) → look (bound (map plain ns) row) (plain n) ≡ look (bound ns row) n
bound_plain [] row n = refl
bound_plain (m ∷ ns) [] n = refl
bound_plain (m ∷ ns) (v ∷ row) n =
    ⊎_elim
    (λ (e : m ≡ n). cond-true (eqb (plain m) (plain n)) v _ (eq-eqb _ _ (ap plain e)) ∙ sym (cond-true (eqb m n) v _ (eq-eqb m n e)))
    (λ (e : m ≡ n → ⊥). cond-false (eqb (plain m) (plain n)) v _ (ne_eqb _ _ (λ (q : 2 * m ≡ 2 * n). e (omega arith))) ∙ bound_plain ns row n ∙ sym (cond-false (eqb m n) v _ (ne_eqb m n e)))
    (cases_eq m n)

unbound : (ns row : List ℕ) (l : ℕ) → mem l ns ≡ false → look (bound ns row) l ≡ 0
unbound [] row l h = refl
unbound (m ∷ ns) [] l h = refl
unbound (m ∷ ns) (v ∷ row) l h =
    let p = or_parts (eqb l m) (mem l ns) h in
    cond-false (eqb m l) v _ (ne_eqb m l (λ e. both_ways (eqb l m) p.0 (eq-eqb l m (sym e)))) ∙ unbound ns row l p.1

module _ (nodes : List Node) (row : List ℕ) where
  abbrev fed : ℕ → ℕ
  fed n = lookup (bound (inputs_of nodes) row) n 0

  input_value : (n : ℕ) → mem n (inputs_of nodes) ≡ true → get_or (values nodes row) n 0 ≡ fed n
  input_value n h =
      let x = input_at nodes n h in
      ⊎_elim
      (λ (m : n < length nodes).
      column_at (valuing fed) nodes n 0 Constant m ∙ ap (valuing fed (take n (values nodes row))) x ∙ ap fed (length_lower (valuing fed) nodes n (omega arith)))
      (λ (m : length nodes ≤ n).
      let z : ◌≡◌ {A = Node} Constant Input = sym (get_or_past nodes n Constant m) ∙ x in
      let o : ◌≡◌ {A = ℕ} 0 1 = cc in
      absurd (omega arith))
      (cases_lt n (length nodes))

  inputs_known : Knows (values nodes row) (map plain (inputs_of nodes)) (bound (map plain (inputs_of nodes)) row)
  inputs_known l =
      let ns = inputs_of nodes in
      let V = values nodes row in
      ⊎_elim
      (λ (h : mem l (map plain ns) ≡ true).
      let r = mem_plain ns l h in
      ap (look (bound (map plain ns) row)) r.1 ∙ bound_plain ns row r.0 ∙ sym (input_value r.0 r.2)
      ∙ sym (literal_plain V r.0) ∙ ap (literal V) (sym r.1) ∙ sym (cond-true (mem l (map plain ns)) _ _ h))
      (λ (h : mem l (map plain ns) ≡ false). unbound (map plain ns) row l h ∙ sym (cond-false (mem l (map plain ns)) _ _ h))
      (cases_Bool (mem l (map plain ns)))

  module _ (right : sound nodes ≡ true) (names : List ℕ) (env : List (ℕ × ℕ)) (k : Knows (values nodes row) names env) where
    -- node 0, whether it has a name or not
    zero_known : look env 0 ≡ get_or (values nodes row) 0 0
    zero_known =
        let z : get_or (values nodes row) 0 0 ≡ 0 = first_value fed nodes right in
        k 0 ∙ cond_both (mem 0 names) (literal (values nodes row) 0) 0 (λ x. x ≡ get_or (values nodes row) 0 0) (λ _. refl) (λ _. sym z)

    output_agrees : (l : ℕ) → output_lawful names l ≡ true → output_value (look env) l ≡ literal (values nodes row) l
    output_agrees l h =
        ap (λ v. turned v l)
        (⊎_elim
        (λ z. let e = eqb-true (node_of l) 0 z in ap (λ n. look env (plain n)) e ∙ zero_known ∙ ap (λ n. get_or (values nodes row) n 0) (sym e))
        (λ z. knows_node (values nodes row) names env k (node_of l) z)
        (or_cases (eqb (node_of l) 0) (mem (plain (node_of l)) names) h))

    outputs_agree : (os : List ℕ) → every (output_lawful names) os ≡ true → map (output_value (look env)) os ≡ map (literal (values nodes row)) os
    outputs_agree [] h = refl
    outputs_agree (o ∷ os) h =
        let p = and_parts (output_lawful names o) (every (output_lawful names) os) h in
        let e = output_agrees o p.0 in
        let t = outputs_agree os p.1 in
        cc

pub covers_agree : CoversAgree
covers_agree d n row h c b =
    let nodes = d.nodes in
    let V = values nodes row in
    let l = cover_says n h in
    let names = map plain n.inputs in
    let k : Knows V names (bound names row) = subst (λ (ns : List ℕ). Knows V (map plain ns) (bound (map plain ns) row)) (sym c.same_inputs) (inputs_known nodes row) in
    outputs_agree nodes row c.right (names_of n) (settled n row)
    (cells_agree (fed nodes row) nodes c.right (values_small nodes row b) n.inputs names (bound names row) n.cells k l.cells_lawful_lem c.suit) n.outputs l.outputs_lawful
    ∙ ap (map (literal V)) c.same_outputs

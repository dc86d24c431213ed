-- What a mapper shows of the pieces that it adds: nodes that have a name, and cells that suit.
use Rattle.std.proofs.Common.{◌≡◌, ℕ, true, false, eqb, ◌⊎◌, List, [], ◌∷◌, map, sym, refl, ap, ◌∙◌, inl, inr, ⊎_elim, arith}
use Rattle.std.proofs.lemmas.Bool.{or_cases, or_left, or_right, both_ways, eqb-true, eq-eqb}
use Rattle.drawing.specs.declared.node.Node.{Node}
use Rattle.drawing.specs.Sets.{mem}
use Rattle.cuts.specs.Cuts.{closes}
use Rattle.cells.specs.declared.cell.Cell.{Cell}
use Rattle.cells.specs.Truth.{table_of}
use Rattle.cells.specs.Netlist.{Netlist, cell_of, plain, root_name}
use Rattle.cells.specs.Laws.{names_after, roots_of, names_of}
use Rattle.cells.specs.Covers.{Suits}
use Rattle.cells.proofs.Tables.{leaves_of_cell}

-- a name stays one
names_stay : (names : List ℕ) (cs : List Cell) (l : ℕ) → mem l names ≡ true → mem l (names_after names cs) ≡ true
names_stay names [] l h = h
names_stay names (c ∷ cs) l h = names_stay (root_name c ∷ names) cs l (or_right (eqb l (root_name c)) (mem l names) h)

plain_in : (ns : List ℕ) (n : ℕ) → mem n ns ≡ true → mem (plain n) (map plain ns) ≡ true
plain_in [] n h = absurd (both_ways false refl h)
plain_in (m ∷ ns) n h =
    ⊎_elim (λ t. or_left _ _ (eq-eqb (plain n) (plain m) (ap plain (eqb-true n m t)))) (λ t. or_right (eqb (plain n) (plain m)) _ (plain_in ns n t)) (or_cases (eqb n m) (mem n ns) h)

root_in : (names : List ℕ) (cs : List Cell) (n : ℕ) → mem n (map (λ c. c.root) cs) ≡ true → mem (plain n) (names_after names cs) ≡ true
root_in names [] n h = absurd (both_ways false refl h)
root_in names (c ∷ cs) n h =
    ⊎_elim (λ t. names_stay (root_name c ∷ names) cs (plain n) (or_left _ _ (eq-eqb (plain n) (root_name c) (ap plain (eqb-true n c.root t)))))
    (λ t. root_in (root_name c ∷ names) cs n t)
    (or_cases (eqb n c.root) (mem n (map (λ x. x.root) cs)) h)

-- what has a name is an input or a root
pub mem_plain : (ns : List ℕ) (l : ℕ) → mem l (map plain ns) ≡ true → (n : ℕ) × (l ≡ plain n) × (mem n ns ≡ true)
mem_plain [] l h = absurd (both_ways false refl h)
mem_plain (m ∷ ns) l h =
    ⊎_elim (λ t. (m, eqb-true l (plain m) t, or_left _ _ (eq-eqb m m refl)))
    (λ t. let r = mem_plain ns l t in (r.0, r.1, or_right (eqb r.0 m) (mem r.0 ns) r.2))
    (or_cases (eqb l (plain m)) (mem l (map plain ns)) h)

name_of : (names : List ℕ) (cs : List Cell) (l : ℕ) → mem l (names_after names cs) ≡ true → (mem l names ≡ true) ⊎ ((n : ℕ) × (l ≡ plain n) × (mem n (map (λ c. c.root) cs) ≡ true))
name_of names [] l h = inl h
name_of names (c ∷ cs) l h =
    ⊎_elim
    (λ t. ⊎_elim (λ q. inr (c.root, eqb-true l (root_name c) q, or_left _ _ (eq-eqb c.root c.root refl))) (λ q. inl q) (or_cases (eqb l (root_name c)) (mem l names) t))
    (λ r. inr (r.0, r.1, or_right (eqb r.0 c.root) (mem r.0 (map (λ x. x.root) cs)) r.2))
    (name_of (root_name c ∷ names) cs l h)

pub named_is : (n : Netlist) (v : ℕ) → mem (plain v) (names_of n) ≡ true → (mem v n.inputs ≡ true) ⊎ (mem v (roots_of n) ≡ true)
named_is n v h =
    ⊎_elim
    (λ t. let r = mem_plain n.inputs (plain v) t in let e : v ≡ r.0 = omega (arith, r.1) in inl (rw e r.2))
    (λ r. let e : v ≡ r.0 = omega (arith, r.1) in inr (rw e r.2))
    (name_of (map plain n.inputs) n.cells (plain v) h)

-- inputs and roots have a name
pub input_named : (n : Netlist) (v : ℕ) → mem v n.inputs ≡ true → mem (plain v) (names_of n) ≡ true
input_named n v h = names_stay (map plain n.inputs) n.cells (plain v) (plain_in n.inputs v h)

pub root_named : (n : Netlist) (v : ℕ) → mem v (roots_of n) ≡ true → mem (plain v) (names_of n) ≡ true
root_named n v h = root_in (map plain n.inputs) n.cells v h

-- the cell of a gate suits the drawing where its leaves close the gate
pub gate_suits : (nodes : List Node) (root : ℕ) (ls : List ℕ) → closes nodes ls root ≡ true → Suits nodes (cell_of nodes root ls)
gate_suits nodes root ls h =
    let e = leaves_of_cell nodes root ls in
    record {
      closing = ap (λ s. closes nodes s root) e ∙ h;
      table = ap (λ s. table_of nodes s root) (sym e);
    }

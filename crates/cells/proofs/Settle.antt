-- The values of a netlist's names in their places, one input or cell after another.
use Rattle.std.proofs.Common.{◌≡◌, ℕ, zero, suc, ◌+◌, ◌<◌, true, false, cond, eqb, ltb, List, [], ◌∷◌, ◌++◌, map, length, get_or, take, replicate, sym, refl, ap, ◌∙◌, subst, ⊎_elim, arith}
use Rattle.std.proofs.lemmas.List.{length-map, length-take-le, map_more, take_more}
use Rattle.std.proofs.lemmas.Bool.{and_from, and_parts, both_ways, cases_Bool, cases_eq, cond-true, cond-false, eq-eqb, lt-ltb, ltb-true, ne_eqb, or_parts}
use Rattle.drawing.specs.Drawing.{node_of}
use Rattle.drawing.specs.Sets.{below, mem, rises}
use Rattle.drawing.specs.Values.{turned, bound}
use Rattle.drawing.proofs.SetLaws.{below_says}
use Rattle.cells.specs.declared.cell.Cell.{Cell}
use Rattle.cells.specs.Truth.{bit}
use Rattle.cells.specs.Netlist.{leaves_of, plain, root_name, cell_value, look, after, output_value}
use Rattle.cells.specs.Evaluate.{Holds}
use Rattle.cells.proofs.LeafRows.{row_same}
use Rattle.cells.proofs.Names.{mem_plain}

pub no_names : (n : ℕ) → Holds (replicate n 0) []
no_names zero k = refl
no_names (suc n) zero = refl
no_names (suc n) (suc k) = no_names n k

-- one input more: it is none of the inputs before it
bound_last : (names row : List ℕ) (r v name : ℕ) → length row ≡ length names → mem r names ≡ false → look (bound (names ++ r ∷ []) (row ++ v ∷ [])) name ≡ look ((r, v) ∷ bound names row) name
bound_last [] [] r v name l h = refl
bound_last [] (w ∷ row) r v name l h = absurd (omega arith)
bound_last (x ∷ names) [] r v name l h = absurd (omega arith)
bound_last (x ∷ names) (w ∷ row) r v name l h =
    let p = or_parts (eqb r x) (mem r names) h in
    let rest = look (bound names row) name in
    let t = bound_last names row r v name (omega arith) p.1 in
    ⊎_elim
    (λ (e : x ≡ name).
    cond-true (eqb x name) w _ (eq-eqb x name e) ∙ sym (cond-true (eqb x name) w rest (eq-eqb x name e))
    ∙ sym (cond-false (eqb r name) v _ (ne_eqb r name (λ (q : r ≡ name). both_ways (eqb r x) p.0 (eq-eqb r x (q ∙ sym e))))))
    (λ (e : x ≡ name → ⊥).
    cond-false (eqb x name) w _ (ne_eqb x name e) ∙ t ∙ ap (cond (eqb r name) v) (sym (cond-false (eqb x name) w rest (ne_eqb x name e))))
    (cases_eq x name)

rises_at : (n : ℕ) (xs : List ℕ) (k : ℕ) → rises n xs ≡ true → k < length xs → n < get_or xs k 0
rises_at n [] k h l = absurd (omega arith)
rises_at n (x ∷ xs) zero h l = ltb-true n x (and_parts (ltb n x) (rises x xs) h).0
rises_at n (x ∷ xs) (suc k) h l =
    let p = and_parts (ltb n x) (rises x xs) h in omega (arith, ltb-true n x p.0, rises_at x xs k p.1 (omega arith))

rises_below : (n : ℕ) (xs : List ℕ) (k : ℕ) → rises n xs ≡ true → k < length xs → below (get_or xs k 0) (take k xs) ≡ true
rises_below n [] k h l = absurd (omega arith)
rises_below n (x ∷ xs) zero h l = refl
rises_below n (x ∷ xs) (suc k) h l =
    let p = and_parts (ltb n x) (rises x xs) h in
    and_from _ _ (lt-ltb x (get_or xs k 0) (rises_at x xs k p.1 (omega arith))) (rises_below x xs k p.1 (omega arith))

pub input_more : (vs inputs row : List ℕ) (k r v : ℕ) → rises 0 inputs ≡ true → k < length inputs → k < length row → r ≡ get_or inputs k 0 → v ≡ get_or row k 0 → Holds vs ((plain r, v) ∷ bound (map plain (take k inputs)) (take k row)) → Holds vs (bound (map plain (take (k + 1) inputs)) (take (k + 1) row))
input_more vs inputs row k r v up li lr ir iv h name =
    let names = map plain (take k inputs) in
    let a : map plain (take (k + 1) inputs) ≡ names ++ plain r ∷ [] = map_more plain inputs k 0 li ∙ ap (λ x. names ++ plain x ∷ []) (sym ir) in
    let b : take (k + 1) row ≡ take k row ++ v ∷ [] = take_more row k 0 lr ∙ ap (λ x. take k row ++ x ∷ []) (sym iv) in
    let low : below r (take k inputs) ≡ true = ap (λ x. below x (take k inputs)) ir ∙ rises_below 0 inputs k up li in
    let new : mem (plain r) names ≡ false =
    ⊎_elim
    (λ (t : mem (plain r) names ≡ true). let m = mem_plain (take k inputs) (plain r) t in absurd (omega (arith, m.1, below_says r (take k inputs) m.0 low m.2)))
    (λ (t : mem (plain r) names ≡ false). t)
    (cases_Bool (mem (plain r) names)) in
    let long : length (take k row) ≡ length names = length-take-le k row (omega arith) ∙ sym (length-map (take k inputs) plain ∙ length-take-le k inputs (omega arith)) in
    h name ∙ sym (bound_last names (take k row) (plain r) v name long new)
    ∙ ap (λ xs. look (bound xs (take k row ++ v ∷ [])) name) (sym a) ∙ ap (λ xs. look (bound (map plain (take (k + 1) inputs)) xs) name) (sym b)

after_push : (env : List (ℕ × ℕ)) (cs : List Cell) (c : Cell) → after env (cs ++ c ∷ []) ≡ (root_name c, cell_value (look (after env cs)) c) ∷ after env cs
after_push env [] c = refl
after_push env (d ∷ cs) c = after_push ((root_name d, cell_value (look env) d) ∷ env) cs c

value_held : (vs : List ℕ) (env : List (ℕ × ℕ)) (c : Cell) → Holds vs env → cell_value (λ l. get_or vs l 0) c ≡ cell_value (look env) c
value_held vs env c h = ap (bit c.table) (row_same (λ l. get_or vs l 0) (look env) h (leaves_of c))

-- one cell more
pub cell_more : (vs new : List ℕ) (env : List (ℕ × ℕ)) (cells : List Cell) (k v : ℕ) (d : Cell) → k < length cells → v ≡ cell_value (λ l. get_or vs l 0) (get_or cells k d) → Holds vs (after env (take k cells)) → Holds new ((root_name (get_or cells k d), v) ∷ after env (take k cells)) → Holds new (after env (take (k + 1) cells))
cell_more vs new env cells k v d lt e h held =
    let c = get_or cells k d in
    let old = after env (take k cells) in
    let a : after env (take (k + 1) cells) ≡ (root_name c, v) ∷ old =
    ap (after env) (take_more cells k d lt) ∙ after_push env (take k cells) c ∙ ap (λ x. (root_name c, x) ∷ old) (sym (e ∙ value_held vs old c h)) in
    subst (Holds new) (sym a) held

pub outputs_same : (f g : ℕ → ℕ) → ((n : ℕ) → f n ≡ g n) → (os : List ℕ) → map (output_value f) os ≡ map (output_value g) os
outputs_same f g e [] = refl
outputs_same f g e (o ∷ os) = let h = ap (λ v. turned v o) (e (plain (node_of o))) in let t = outputs_same f g e os in cc

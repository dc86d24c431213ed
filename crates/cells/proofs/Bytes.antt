-- The bytes of a row: the first that is above 1, and what is answered where there is none.
use Rattle.std.proofs.Common.{◌≡◌, ℕ, ◌+◌, ◌<◌, ◌≤◌, ◌&&◌, eqb, ltb, leb, List, [], ◌∷◌, length, Some, None, Ok, sym, ap, ◌∙◌, ⊎_elim, arith}
use Rattle.std.specs.List.{position_from}
use Rattle.std.proofs.lemmas.Iterator.Adapters.{position_from-zero}
use Rattle.std.proofs.lemmas.Bool.{cond-true, cond-false, lt-ltb, le-ltb, le-leb, eq-eqb, and_from, cases_lt}
use Rattle.drawing.specs.Values.{Binary}
use Rattle.drawing.proofs.ValueLaws.{binary_none, binary_cons}
use Rattle.cells.specs.Netlist.{Netlist}
use Rattle.cells.specs.Evaluate.{first_above, unless_bad, evaluate_answer}

-- none above 1: every byte is 0 or 1
binary_from : (row : List ℕ) (i : ℕ) → position_from (λ b. ltb 1 b) i row ≡ None → Binary row
binary_from [] i e = binary_none
binary_from (b ∷ bs) i e =
    ⊎_elim
    (λ (h : 1 < b). let q : Some i ≡ None = sym (cond-true (ltb 1 b) (Some i) _ (lt-ltb 1 b h)) ∙ e in let z : ◌≡◌ {A = ℕ} 0 1 = cc in absurd (omega arith))
    (λ (h : b ≤ 1). binary_cons b bs h (binary_from bs (i + 1) (sym (cond-false (ltb 1 b) (Some i) _ (le-ltb 1 b h)) ∙ e)))
    (cases_lt 1 b)

pub binary_row : (row : List ℕ) → first_above row ≡ None → Binary row
binary_row row e = binary_from row 0 (sym (position_from-zero (λ b. ltb 1 b) row) ∙ e)

-- an accepted row
pub row_accepted : (n : Netlist) (row out : List ℕ) → length row ≡ length n.inputs → length n.outputs ≤ length out → first_above row ≡ None → evaluate_answer n row out ≡ Ok tt
row_accepted n row out l o e =
    cond-true (eqb (length row) (length n.inputs) && leb (length n.outputs) (length out)) _ _ (and_from _ _ (eq-eqb _ _ l) (le-leb _ _ o)) ∙ ap unless_bad e

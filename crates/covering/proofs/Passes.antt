-- The passes that fill a cover: what one more input needs and the inputs then, and the set that stands at a node.
use Rattle.std.proofs.Common.{◌≡◌, ℕ, ◌+◌, ◌<◌, true, false, cond, ◌≢◌, List, [], ◌∷◌, ◌++◌, map, length, get_or, take, sym, refl, ap, ◌∙◌, subst, ⊎_elim, arith}
use Rattle.std.proofs.lemmas.List.{take_more, length-take-le, get_or-take, get_or-map, append-nil}
use Rattle.std.proofs.lemmas.Bool.{both_ways, cases_eq}
use Rattle.drawing.specs.declared.node.Node.{Node}
use Rattle.drawing.specs.declared.node.Node.TheVariants.{Constant}
use Rattle.drawing.specs.Sets.{below}
use Rattle.drawing.specs.Drawing.{at, is_input, sound}
use Rattle.drawing.specs.declared.table.Table.{Table}
use Rattle.drawing.specs.Tables.{drawing_of}
use Rattle.drawing.specs.Values.{inputs_of}
use Rattle.drawing.proofs.Lawful.{Lawfully, lawful_says}
use Rattle.drawing.proofs.InputLaws.{inputs_push, inputs_below, inputs_rise}
use Rattle.drawing.proofs.ValueLaws.{first_constant}
use Rattle.drawing.proofs.Lists.{rises_few}
use Rattle.covering.specs.Chosen.{set_at}

-- what a table's law says of its drawing
pub table_says : (t : Table) → Lawfully (drawing_of t).nodes (drawing_of t).outputs
table_says t = lawful_says (drawing_of t).nodes (drawing_of t).outputs t.law

-- the inputs, a node at a time
module _ (nodes : List Node) (v : ℕ) (l : v < length nodes) where
  front : length (take v nodes) ≡ v
  front = length-take-le v nodes (omega arith)

  inputs_next : inputs_of (take (v + 1) nodes) ≡ inputs_of (take v nodes) ++ cond (is_input (at nodes v)) (v ∷ []) []
  inputs_next =
      ap inputs_of (take_more nodes v Constant l) ∙ inputs_push (take v nodes) (at nodes v)
      ∙ ap (λ n. inputs_of (take v nodes) ++ cond (is_input (at nodes v)) (n ∷ []) []) front

  pub inputs_skip : is_input (at nodes v) ≡ false → inputs_of (take v nodes) ≡ inputs_of (take (v + 1) nodes)
  inputs_skip h = sym (inputs_next ∙ ap (λ b. inputs_of (take v nodes) ++ cond b (v ∷ []) []) h ∙ append-nil (inputs_of (take v nodes)))

  pub inputs_more : is_input (at nodes v) ≡ true → inputs_of (take v nodes) ++ v ∷ [] ≡ inputs_of (take (v + 1) nodes)
  inputs_more h = sym (inputs_next ∙ ap (λ b. inputs_of (take v nodes) ++ cond b (v ∷ []) []) h)

  pub input_above : below v (inputs_of (take v nodes)) ≡ true
  input_above = subst (λ n. below n (inputs_of (take v nodes)) ≡ true) front (inputs_below (take v nodes))

  module _ (d : sound nodes ≡ true) (h : is_input (at nodes v) ≡ true) where
    pub input_positive : 0 < v
    input_positive =
        ⊎_elim (λ (e : v ≡ 0). absurd (both_ways false refl (sym (ap is_input (ap (at nodes) e ∙ first_constant nodes d)) ∙ h))) (λ (e : v ≢ 0). omega arith) (cases_eq v 0)

    pub input_room : length (inputs_of (take v nodes)) < v
    input_room =
        let first = get_or-take v nodes 0 Constant input_positive ∙ first_constant nodes d in
        omega (arith, rises_few 0 v (inputs_of (take v nodes)) input_positive (inputs_rise (take v nodes) first) input_above)

-- the set at a node is that of the element which stands there
pub stored_at : {X : Type 0} (f : X → List ℕ) (xs : List X) (v : ℕ) (x : X) → v < length xs → x ≡ get_or xs v x → f x ≡ set_at (map f xs) v
stored_at f xs v x l e = ap f e ∙ sym (get_or-map f xs v x [] l)

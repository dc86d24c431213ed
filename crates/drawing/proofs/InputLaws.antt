-- The inputs of a drawing: what has a number among theirs is an input and the other way round, and their numbers rise.
use Rattle.std.proofs.Common.{◌≡◌, ℕ, zero, suc, ◌+◌, ◌<◌, ◌≤◌, true, false, cond, eqb, List, [], ◌∷◌, ◌++◌, length, get_or, sym, refl, ap, ◌∙◌, ⊎_elim, zero-add, arith}
use Rattle.std.proofs.lemmas.Bool.{and_from, both_ways, cases_Bool, lt-ltb, eq-eqb, or_left, or_right}
use Rattle.drawing.specs.declared.node.Node.{Node}
use Rattle.drawing.specs.declared.node.Node.TheVariants.{Constant, Input, Gate}
use Rattle.drawing.specs.Sets.{mem, rises, below}
use Rattle.drawing.specs.Drawing.{at, is_input, is_gate}
use Rattle.drawing.specs.Values.{inputs_from, inputs_of}
use Rattle.drawing.proofs.SetLaws.{mem_cases}

-- numbers are counted from that of the first node
inputs_above : (i : ℕ) (ns : List Node) (n : ℕ) → mem n (inputs_from i ns) ≡ true → i ≤ n
inputs_above i [] n h = absurd (both_ways false refl h)
inputs_above i (Constant ∷ ns) n h = omega (arith, inputs_above (suc i) ns n h)
inputs_above i (Gate p ∷ ns) n h = omega (arith, inputs_above (suc i) ns n h)
inputs_above i (Input ∷ ns) n h =
    ⊎_elim (λ (e : n ≡ i). omega arith) (λ t. omega (arith, inputs_above (suc i) ns n t)) (mem_cases n i (inputs_from (suc i) ns) h)

input_from : (i : ℕ) (ns : List Node) (k n : ℕ) → n ≡ i + k → mem n (inputs_from i ns) ≡ true → get_or ns k Constant ≡ Input
input_from i [] k n e h = absurd (both_ways false refl h)
input_from i (Constant ∷ ns) zero n e h = absurd (omega (arith, inputs_above (suc i) ns n h))
input_from i (Gate p ∷ ns) zero n e h = absurd (omega (arith, inputs_above (suc i) ns n h))
input_from i (Input ∷ ns) zero n e h = refl
input_from i (Constant ∷ ns) (suc k) n e h = input_from (suc i) ns k n (omega arith) h
input_from i (Gate p ∷ ns) (suc k) n e h = input_from (suc i) ns k n (omega arith) h
input_from i (Input ∷ ns) (suc k) n e h =
    ⊎_elim (λ (f : n ≡ i). absurd (omega arith)) (λ t. input_from (suc i) ns k n (omega arith) t) (mem_cases n i (inputs_from (suc i) ns) h)

pub input_at : (nodes : List Node) (n : ℕ) → mem n (inputs_of nodes) ≡ true → at nodes n ≡ Input
input_at nodes n h = input_from 0 nodes n n (sym (zero-add n)) h

listed_from : (i : ℕ) (ns : List Node) (k n : ℕ) → n ≡ i + k → get_or ns k Constant ≡ Input → mem n (inputs_from i ns) ≡ true
listed_from i [] k n e h = absurd (both_ways _ (sym (ap is_input h)) refl)
listed_from i (Constant ∷ ns) zero n e h = absurd (both_ways false refl (ap is_input h))
listed_from i (Gate p ∷ ns) zero n e h = absurd (both_ways false refl (ap is_input h))
listed_from i (Input ∷ ns) zero n e h = or_left _ _ (eq-eqb n i (omega arith))
listed_from i (Constant ∷ ns) (suc k) n e h = listed_from (suc i) ns k n (omega arith) h
listed_from i (Gate p ∷ ns) (suc k) n e h = listed_from (suc i) ns k n (omega arith) h
listed_from i (Input ∷ ns) (suc k) n e h = or_right (eqb n i) _ (listed_from (suc i) ns k n (omega arith) h)

pub input_listed : (nodes : List Node) (n : ℕ) → at nodes n ≡ Input → mem n (inputs_of nodes) ≡ true
input_listed nodes n h = listed_from 0 nodes n n (sym (zero-add n)) h

-- a gate's number is not among them
pub gate_no_input : (nodes : List Node) (n : ℕ) → is_gate (at nodes n) ≡ true → mem n (inputs_of nodes) ≡ false
gate_no_input nodes n g =
    ⊎_elim (λ h. absurd (both_ways false refl (sym (ap is_gate (input_at nodes n h)) ∙ g))) (λ h. h) (cases_Bool (mem n (inputs_of nodes)))

-- one node more
inputs_from_push : (i : ℕ) (ns : List Node) (n : Node) → inputs_from i (ns ++ n ∷ []) ≡ inputs_from i ns ++ cond (is_input n) ((i + length ns) ∷ []) []
inputs_from_push i [] Constant = refl
inputs_from_push i [] Input = let e : i ≡ i + 0 = omega arith in ap (λ k. k ∷ []) e
inputs_from_push i [] (Gate p) = refl
inputs_from_push i (Constant ∷ ns) n = let e : suc i + length ns ≡ i + suc (length ns) = omega arith in inputs_from_push (suc i) ns n ∙ ap (λ k. inputs_from (suc i) ns ++ cond (is_input n) (k ∷ []) []) e
inputs_from_push i (Gate p ∷ ns) n = let e : suc i + length ns ≡ i + suc (length ns) = omega arith in inputs_from_push (suc i) ns n ∙ ap (λ k. inputs_from (suc i) ns ++ cond (is_input n) (k ∷ []) []) e
inputs_from_push i (Input ∷ ns) n = let e : suc i + length ns ≡ i + suc (length ns) = omega arith in ap (λ xs. i ∷ xs) (inputs_from_push (suc i) ns n ∙ ap (λ k. inputs_from (suc i) ns ++ cond (is_input n) (k ∷ []) []) e)

pub inputs_push : (nodes : List Node) (n : Node) → inputs_of (nodes ++ n ∷ []) ≡ inputs_of nodes ++ cond (is_input n) (length nodes ∷ []) []
inputs_push nodes n = inputs_from_push 0 nodes n ∙ ap (λ k. inputs_of nodes ++ cond (is_input n) (k ∷ []) []) (zero-add (length nodes))

inputs_from_below : (i : ℕ) (ns : List Node) (v : ℕ) → i + length ns ≤ v → below v (inputs_from i ns) ≡ true
inputs_from_below i [] v l = refl
inputs_from_below i (Constant ∷ ns) v l = inputs_from_below (suc i) ns v (omega arith)
inputs_from_below i (Gate p ∷ ns) v l = inputs_from_below (suc i) ns v (omega arith)
inputs_from_below i (Input ∷ ns) v l = and_from _ _ (lt-ltb i v (omega arith)) (inputs_from_below (suc i) ns v (omega arith))

pub inputs_below : (nodes : List Node) → below (length nodes) (inputs_of nodes) ≡ true
inputs_below nodes = inputs_from_below 0 nodes (length nodes) (omega arith)

inputs_from_rise : (m i : ℕ) (ns : List Node) → m < i → rises m (inputs_from i ns) ≡ true
inputs_from_rise m i [] l = refl
inputs_from_rise m i (Constant ∷ ns) l = inputs_from_rise m (suc i) ns (omega arith)
inputs_from_rise m i (Gate p ∷ ns) l = inputs_from_rise m (suc i) ns (omega arith)
inputs_from_rise m i (Input ∷ ns) l = and_from _ _ (lt-ltb m i l) (inputs_from_rise i (suc i) ns (omega arith))

-- they rise from 1 or more where node 0 is the constant
pub inputs_rise : (nodes : List Node) → at nodes 0 ≡ Constant → rises 0 (inputs_of nodes) ≡ true
inputs_rise [] e = refl
inputs_rise (Constant ∷ ns) e = inputs_from_rise 0 1 ns (omega arith)
inputs_rise (Input ∷ ns) e = absurd (both_ways false refl (sym (ap is_input e)))
inputs_rise (Gate p ∷ ns) e = inputs_from_rise 0 1 ns (omega arith)

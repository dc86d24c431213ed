-- Lawful drawings: what they say, and that the calls that add to a drawing leave it lawful.
use Rattle.std.proofs.Common.{◌≡◌, ℕ, ◌<◌, ◌≤◌, true, false, ◌&&◌, eqb, ltb, leb, List, [], ◌∷◌, ◌++◌, length, set, refl, ⊎_elim, arith, length-set}
use Rattle.std.proofs.lemmas.Bool.{and_parts, and_from, ltb-true, lt-ltb, leb-true, le-leb, ne_eqb}
use Rattle.std.proofs.lemmas.List.{length_push}
use Rattle.drawing.specs.declared.node.Pair.{Pair}
use Rattle.drawing.specs.declared.node.Node.{Node}
use Rattle.drawing.specs.declared.node.Node.TheVariants.{Constant, Gate}
use Rattle.drawing.specs.Sets.{every, In}
use Rattle.drawing.specs.Drawing.{drawing, node_of, at, is_gate, sound_at, sound, names, lawful, most_nodes, most_outputs}
use Rattle.drawing.proofs.Members.{every_in, in_every, in_append}
use Rattle.drawing.proofs.Sound.{sound_push, sound_set}

-- the four parts of the law
pub record Lawfully (nodes : List Node) (outputs : List ℕ) : Type 0 where
  pub nodes_sound : sound nodes ≡ true
  pub outputs_named : (o : ℕ) → In o outputs → node_of o < length nodes
  pub nodes_few : length nodes ≤ most_nodes
  pub outputs_few : length outputs ≤ most_outputs

pub lawful_says : (nodes : List Node) (outputs : List ℕ) → lawful (drawing nodes outputs) ≡ true → Lawfully nodes outputs
unfolding lawful
lawful_says nodes outputs h =
    let p = and_parts (sound nodes && every (names nodes) outputs && leb (length nodes) most_nodes) (leb (length outputs) most_outputs) h in
    let q = and_parts (sound nodes && every (names nodes) outputs) (leb (length nodes) most_nodes) p.0 in
    let r = and_parts (sound nodes) (every (names nodes) outputs) q.0 in
    record {
      nodes_sound = r.0;
      outputs_named = λ o i. ltb-true _ _ (every_in (names nodes) o outputs r.1 i);
      nodes_few = leb-true _ _ q.1;
      outputs_few = leb-true _ _ p.1;
    }

pub says_lawful : (nodes : List Node) (outputs : List ℕ) → Lawfully nodes outputs → lawful (drawing nodes outputs) ≡ true
unfolding lawful
says_lawful nodes outputs l =
    and_from _ _
    (and_from _ _
    (and_from _ _ l.nodes_sound (in_every (names nodes) outputs (λ o i. lt-ltb _ _ (l.outputs_named o i))))
    (le-leb _ _ l.nodes_few))
    (le-leb _ _ l.outputs_few)

pub lawful_new : lawful (drawing (Constant ∷ []) []) ≡ true
unfolding lawful sound
lawful_new = refl

-- one node more
pub lawful_node : (nodes : List Node) (outputs : List ℕ) (n : Node) → lawful (drawing nodes outputs) ≡ true → length nodes < most_nodes → sound_at (length nodes) n ≡ true → lawful (drawing (nodes ++ n ∷ []) outputs) ≡ true
lawful_node nodes outputs n h l s =
    let w = lawful_says nodes outputs h in
    says_lawful (nodes ++ n ∷ []) outputs record {
      nodes_sound = sound_push nodes n w.nodes_sound s;
      outputs_named = λ o i. omega (arith, w.outputs_named o i, length_push nodes n);
      nodes_few = omega (arith, length_push nodes n);
      outputs_few = w.outputs_few;
    }

-- one output more
pub lawful_output : (nodes : List Node) (outputs : List ℕ) (l : ℕ) → lawful (drawing nodes outputs) ≡ true → length outputs < most_outputs → names nodes l ≡ true → lawful (drawing nodes (outputs ++ l ∷ [])) ≡ true
lawful_output nodes outputs l h few n =
    let w = lawful_says nodes outputs h in
    says_lawful nodes (outputs ++ l ∷ []) record {
      nodes_sound = w.nodes_sound;
      outputs_named = λ o i. ⊎_elim (λ j. w.outputs_named o j) (λ j. ⊎_elim (λ (e : l ≡ o). rw (← e) (ltb-true _ _ n)) (λ k. elim k [ ]) j) (in_append o outputs (l ∷ []) i);
      nodes_few = w.nodes_few;
      outputs_few = omega (arith, length_push outputs l);
    }

-- a gate tied anew, to nodes below it
pub lawful_tie : (nodes : List Node) (outputs : List ℕ) (g : ℕ) (p : Pair) → lawful (drawing nodes outputs) ≡ true → is_gate (at nodes g) ≡ true → (ltb (node_of p.left) g && ltb (node_of p.right) g) ≡ true → lawful (drawing (set nodes g (Gate p)) outputs) ≡ true
lawful_tie nodes outputs g p h gate b =
    let w = lawful_says nodes outputs h in
    let q = and_parts (ltb (node_of p.left) g) _ b in
    let l = ltb-true _ _ q.0 in
    let e : eqb g 0 ≡ false = ne_eqb g 0 (omega arith) in
    let s : sound_at g (Gate p) ≡ true = rw e (and_from _ _ refl (and_from _ _ q.0 (and_from _ _ q.1 refl))) in
    says_lawful (set nodes g (Gate p)) outputs record {
      nodes_sound = sound_set nodes g (Gate p) w.nodes_sound s;
      outputs_named = λ o i. omega (arith, w.outputs_named o i, length-set nodes g (Gate p));
      nodes_few = omega (arith, w.nodes_few, length-set nodes g (Gate p));
      outputs_few = w.outputs_few;
    }

-- Sound nodes: what they say of each node, and that one more node or a gate tied anew leaves them sound.
use Rattle.std.proofs.Common.{◌≡◌, ℕ, ◌<◌, true, false, eqb, ltb, ◌≢◌, ◌⊎◌, List, [], ◌∷◌, ◌++◌, length, set, refl, ap, subst, inl, inr, ⊎_elim, arith}
use mathlib.Core.Bool.{beq}
use Rattle.std.specs.List.{range_with_len}
use Rattle.std.proofs.lemmas.Bool.{and_parts, and_from, both_ways, ltb-true, lt-ltb, cases_eq, cases_lt, ne_eqb, eq-eqb}
use Rattle.std.proofs.lemmas.List.{get_or-set_same, get_or-set_other, length-set, get_or_append_left, get_or_push, length_push, get_or_past}
use Rattle.drawing.specs.declared.node.Pair.{Pair}
use Rattle.drawing.specs.declared.node.Node.{Node}
use Rattle.drawing.specs.declared.node.Node.TheVariants.{Constant, Input, Gate}
use Rattle.drawing.specs.Sets.{In}
use Rattle.drawing.specs.Drawing.{at, is_gate, fanins, sound_at, sound}
use Rattle.drawing.proofs.Members.{every_in, in_every, counting_in, in_counting}

-- what each case of a node says
pub gate_of : (n : Node) → is_gate n ≡ true → (p : Pair) × (n ≡ Gate p)
gate_of Constant h = absurd (both_ways false refl h)
gate_of Input h = absurd (both_ways false refl h)
gate_of (Gate p) h = (p, refl)

pub sound_at_lem : (nodes : List Node) (v : ℕ) → sound nodes ≡ true → v < length nodes → sound_at v (at nodes v) ≡ true
unfolding sound
sound_at_lem nodes v d l =
    every_in (λ u. sound_at u (at nodes u)) v (range_with_len 0 (length nodes)) (and_parts _ _ d).1 (in_counting 0 (length nodes) v (omega arith) (omega arith))

pub fanins_below_lem : (nodes : List Node) (v f : ℕ) → sound nodes ≡ true → v < length nodes → In f (fanins (at nodes v)) → f < v
fanins_below_lem nodes v f d l m =
    ltb-true f v (every_in (λ u. ltb u v) f (fanins (at nodes v)) (and_parts _ _ (sound_at_lem nodes v d l)).1 m)

pub sound_by : (nodes : List Node) → 0 < length nodes → ((v : ℕ) → v < length nodes → sound_at v (at nodes v) ≡ true) → sound nodes ≡ true
unfolding sound
sound_by nodes l h = and_from _ _ (lt-ltb 0 (length nodes) l) (in_every (λ v. sound_at v (at nodes v)) (range_with_len 0 (length nodes)) (λ v m. h v (omega (arith, counting_in 0 (length nodes) v m))))

pub sound_some : (nodes : List Node) → sound nodes ≡ true → 0 < length nodes
unfolding sound
sound_some nodes d = ltb-true 0 (length nodes) (and_parts _ _ d).0

pub sound_push : (nodes : List Node) (n : Node) → sound nodes ≡ true → sound_at (length nodes) n ≡ true → sound (nodes ++ n ∷ []) ≡ true
sound_push nodes n d h =
    sound_by (nodes ++ n ∷ []) (omega (arith, length_push nodes n))
    (λ v l. ⊎_elim
    (λ (e : v ≡ length nodes). rw (e, get_or_push nodes n Constant (length nodes) refl) h)
    (λ (e : v ≢ length nodes). let b : v < length nodes = omega (arith, length_push nodes n) in rw (get_or_append_left nodes (n ∷ []) Constant v b) (sound_at_lem nodes v d b))
    (cases_eq v (length nodes)))

pub sound_set : (nodes : List Node) (g : ℕ) (n : Node) → sound nodes ≡ true → sound_at g n ≡ true → sound (set nodes g n) ≡ true
sound_set nodes g n d h =
    sound_by (set nodes g n) (omega (arith, length-set nodes g n, sound_some nodes d))
    (λ v l. let b : v < length nodes = omega (arith, length-set nodes g n) in ⊎_elim
    (λ (e : v ≡ g). rw (e, get_or-set_same nodes g n Constant (omega arith)) h)
    (λ (e : v ≢ g). rw (get_or-set_other nodes g v n Constant e) (sound_at_lem nodes v d b))
    (cases_eq v g))

-- an input is right at any place but 0
pub input_right : (nodes : List Node) → sound nodes ≡ true → sound_at (length nodes) Input ≡ true
input_right nodes d =
    let l = sound_some nodes d in
    let e : eqb (length nodes) 0 ≡ false = ne_eqb (length nodes) 0 (omega arith) in
    rw e refl

-- a gate is a node of the drawing
pub gate_range : (nodes : List Node) (v : ℕ) → is_gate (at nodes v) ≡ true → v < length nodes
gate_range nodes v g =
    ⊎_elim (λ l. l) (λ l. absurd (both_ways _ (ap is_gate (get_or_past nodes v Constant l)) g)) (cases_lt v (length nodes))

-- a gate stands above node 0
pub gate_positive : (nodes : List Node) (v : ℕ) → sound nodes ≡ true → is_gate (at nodes v) ≡ true → 0 < v
gate_positive nodes v d g =
    let p = gate_of (at nodes v) g in
    let h : sound_at v (Gate p.0) ≡ true = subst (λ n. sound_at v n ≡ true) p.1 (sound_at_lem nodes v d (gate_range nodes v g)) in
    ⊎_elim
    (λ (e : v ≡ 0). absurd (both_ways false refl (subst (λ b. beq false b ≡ true) (eq-eqb v 0 e) (and_parts _ _ h).0)))
    (λ (e : v ≢ 0). omega arith)
    (cases_eq v 0)

-- what stands above node 0 is an input or a gate
kind_at : (v : ℕ) (n : Node) → 0 < v → sound_at v n ≡ true → (n ≡ Input) ⊎ (is_gate n ≡ true)
kind_at v Constant l h = absurd (both_ways false refl (subst (λ b. beq true b ≡ true) (ne_eqb v 0 (omega arith)) (and_parts _ _ h).0))
kind_at v Input l h = inl refl
kind_at v (Gate p) l h = inr refl

pub kind_above : (nodes : List Node) (v : ℕ) → sound nodes ≡ true → v < length nodes → 0 < v → (at nodes v ≡ Input) ⊎ (is_gate (at nodes v) ≡ true)
kind_above nodes v d l p = kind_at v (at nodes v) p (sound_at_lem nodes v d l)

-- What the calls that add to a drawing leave of each gate and its list.
use Rattle.std.proofs.Common.{◌≡◌, ℕ, Bool, true, false, cond, List, [], ◌∷◌, ◌++◌, length, Ok, Err, Result, sym, refl, ap, ◌∙◌, subst}
use Rattle.std.proofs.lemmas.List.{get_or_append_left}
use Rattle.std.proofs.lemmas.Bool.{both_ways}
use Rattle.drawing.specs.declared.node.Node.{Node}
use Rattle.drawing.specs.declared.node.Node.TheVariants.{Constant}
use Rattle.drawing.specs.Drawing.{Drawing, drawing, at, is_gate, sound, lawful}
use Rattle.drawing.specs.Sets.{elem}
use Rattle.drawing.proofs.Sound.{gate_range}
use Rattle.drawing.proofs.Lawful.{lawful_says}
use Rattle.drawing.specs.declared.refusal.Refusal.{Refusal}
use Rattle.drawing.specs.Calls.{Unless}
use Rattle.drawing.specs.declared.table.Table.{Table}
use Rattle.drawing.specs.Tables.{drawing_of}
use Rattle.family.specs.Supplied.{is_width}
use Rattle.fitter.specs.declared.job.Job.{Job}
use Rattle.fitter.specs.Keeping.{held_of, row_of}
use Rattle.cuts.specs.Cuts.{least_cuts}
use Rattle.cuts.specs.Leaves.{sets_of}
use Rattle.cuts.proofs.Stable.{list_push}

-- each gate is still one, with the same list
abbrev pub Stays : List Node → List Node → Type 0
Stays old new = (v k : ℕ) → is_gate (at old v) ≡ true → (is_gate (at new v) ≡ true) × (least_cuts old k v ≡ least_cuts new k v)

pub stays_same : (nodes : List Node) → Stays nodes nodes
stays_same nodes v k g = (g, refl)

-- one node more
pub stays_push : (nodes : List Node) (n : Node) → sound nodes ≡ true → sound (nodes ++ n ∷ []) ≡ true → Stays nodes (nodes ++ n ∷ [])
stays_push nodes n s t v k g =
    let l = gate_range nodes v g in
    (rw (get_or_append_left nodes (n ∷ []) Constant v l) g, list_push nodes n k v s t l)

-- an accepted or refused call that adds a node
pub stays_node : (d e : Drawing) (n : Node) (accepted : Bool) → e ≡ cond accepted (drawing (d.nodes ++ n ∷ []) d.outputs) d → lawful d ≡ true → lawful e ≡ true → Stays d.nodes e.nodes
stays_node d e n true is h k =
    let s = (lawful_says d.nodes d.outputs h).nodes_sound in
    let t = (lawful_says (d.nodes ++ n ∷ []) d.outputs (rw is at k)).nodes_sound in
    rw is (stays_push d.nodes n s t)
stays_node d e n false is h k = rw is (stays_same d.nodes)

-- an accepted or refused call that adds an output
pub stays_output : (d e : Drawing) (os : List ℕ) (accepted : Bool) → e ≡ cond accepted (drawing d.nodes os) d → Stays d.nodes e.nodes
stays_output d e os true is = rw is (stays_same d.nodes)
stays_output d e os false is = rw is (stays_same d.nodes)

-- the laws of a job hold with another table, in which each gate stays
pub job_stays : (j : Job) (t : Table) → Stays (drawing_of j.table).nodes (drawing_of t).nodes → (is_width j.width ≡ true) × (((v : ℕ) → held_of j.lists v ≡ true → is_gate (at (drawing_of t).nodes v) ≡ true) × (((v : ℕ) → held_of j.lists v ≡ true → (s : List ℕ) → elem s (sets_of (row_of j.lists v)) ≡ elem s (least_cuts (drawing_of t).nodes j.width v)) × (((v : ℕ) → held_of j.lists v ≡ true → length (row_of j.lists v) ≡ length (least_cuts (drawing_of t).nodes j.width v)))))
job_stays j t stays = (
  j.part,
  (
    (λ v h. (stays v j.width (j.gates v h)).0),
    (
      (λ v h s. j.listed v h s ∙ ap (elem s) (stays v j.width (j.gates v h)).1),
      (λ v h. j.counted v h ∙ ap length (stays v j.width (j.gates v h)).1),
    ),
  ),
)

-- what a refusal leaves in a part, it leaves in the whole
pub unless_same : {T : Type 0} {P Q : Type 0} (r : Result T Refusal) → (P → Q) → Unless r P → Unless r Q
unless_same (Ok x) f u = u
unless_same (Err e) f u = f u

-- no list is kept
pub nothing_kept : (held : ℕ → Bool) → ((u : ℕ) → held u ≡ false) → (v : ℕ) → held v ≡ true → ⊥
nothing_kept held none v h = both_ways _ (none v) h

-- a fact holds where the answer is a refusal
pub unless_is : {T P : Type 0} (r : Result T Refusal) (e : Refusal) → r ≡ Err e → P → Unless r P
unless_is {T} {P} r e is p = subst (λ z. Unless z P) (sym is) p

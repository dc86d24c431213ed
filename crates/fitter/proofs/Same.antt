-- Jobs with the same drawing, width and lists are equal: the facts of their ghost fields have one proof each.
use Rattle.std.proofs.Common.{◌≡◌, ℕ, true, List, length, ap, ◌∙◌, subst}
use denote.Struct.Props.{props}
use Rattle.drawing.specs.declared.table.Table.{Table}
use Rattle.drawing.specs.Drawing.{at, is_gate}
use Rattle.drawing.specs.Sets.{elem}
use Rattle.drawing.specs.Tables.{drawing_of}
use Rattle.cuts.specs.Cuts.{least_cuts}
use Rattle.cuts.specs.Leaves.{sets_of}
use Rattle.family.specs.Supplied.{is_width}
use Rattle.fitter.specs.declared.job.Job.{Job}
use Rattle.fitter.specs.declared.kept.Kept.{Kept}
use Rattle.fitter.specs.Keeping.{held_of, row_of}

module _ (t : Table) (w : ℕ) (l : Kept) where
  abbrev Part : Type 0
  Part = is_width w ≡ true

  abbrev Gates : Type 0
  Gates = (v : ℕ) → held_of l v ≡ true → is_gate (at (drawing_of t).nodes v) ≡ true

  abbrev Listed : Type 0
  Listed = (v : ℕ) → held_of l v ≡ true → (s : List ℕ) → elem s (sets_of (row_of l v)) ≡ elem s (least_cuts (drawing_of t).nodes w v)

  abbrev Counted : Type 0
  Counted = (v : ℕ) → held_of l v ≡ true → length (row_of l v) ≡ length (least_cuts (drawing_of t).nodes w v)

  abbrev made : Part → Gates → Listed → Counted → Job
  made p g s c = record { table = t; width = w; lists = l; part = p; gates = g; listed = s; counted = c }

  part_one : IsProp Part
  part_one = hlevel props

  gates_one : IsProp Gates
  gates_one = hlevel props

  listed_one : IsProp Listed
  listed_one = hlevel props

  counted_one : IsProp Counted
  counted_one = hlevel props

  same_made : (p p' : Part) (g g' : Gates) (s s' : Listed) (c c' : Counted) → made p g s c ≡ made p' g' s' c'
  same_made p p' g g' s s' c c' =
      ap (λ z. made z g s c) (part_one p p') ∙ ap (λ z. made p' z s c) (gates_one g g')
      ∙ ap (λ z. made p' g' z c) (listed_one s s') ∙ ap (λ z. made p' g' s' z) (counted_one c c')

pub same_job : (i j : Job) → i.table ≡ j.table → i.width ≡ j.width → i.lists ≡ j.lists → i ≡ j
same_job i j e f h =
    subst (λ (t : Table). (p : Part t j.width j.lists) (g : Gates t j.width j.lists) (s : Listed t j.width j.lists) (c : Counted t j.width j.lists) → i ≡ made t j.width j.lists p g s c) e
    (subst (λ (w : ℕ). (p : Part i.table w j.lists) (g : Gates i.table w j.lists) (s : Listed i.table w j.lists) (c : Counted i.table w j.lists) → i ≡ made i.table w j.lists p g s c) f
    (subst (λ (l : Kept). (p : Part i.table i.width l) (g : Gates i.table i.width l) (s : Listed i.table i.width l) (c : Counted i.table i.width l) → i ≡ made i.table i.width l p g s c) h
    (λ p g s c. same_made i.table i.width i.lists i.part p i.gates g i.listed s i.counted c)))
    j.part j.gates j.listed j.counted

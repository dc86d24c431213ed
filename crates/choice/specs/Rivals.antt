-- Rivals: any cover of the drawing, and that none is earlier than the cuts that map takes.
use Rattle.std.specs.Prelude.{◌≡◌, ℕ, ◌<◌, ◌≤◌, Bool, true, List, length, slice_index_or}
use Rattle.drawing.specs.declared.node.Node.{Node}
use Rattle.drawing.specs.declared.node.Node.TheVariants.{Constant, Input, Gate}
use Rattle.drawing.specs.Sets.{mem, elem, In}
use Rattle.drawing.specs.Column.{column}
use Rattle.drawing.specs.Drawing.{at, node_of, is_gate, sound}
use Rattle.drawing.specs.Reach.{needed}
use Rattle.cuts.specs.Cuts.{cut, least_cuts}
use Rattle.family.specs.Family.{Delay, cell_arrival}
use Rattle.drawing.specs.Drawing.{most_leaves}
use Rattle.choice.specs.Choice.{taken, best, taken_cut, is_cell, tabled}

module _ {A : Type 0} (F : Delay A) where
  -- the arrival of the next node in a rival, by those below it: the start, or for a gate the arrival of a cell by the cut it is given
  abbrev pub rival_step : (ℕ → List ℕ) → List A → Node → A
  rival_step given lower Constant = F.start
  rival_step given lower Input = F.start
  rival_step given lower (Gate p) = cell_arrival F lower (given (length lower))

  -- the arrivals of all nodes in a rival
  unfoldable pub arrivals : List Node → (ℕ → List ℕ) → List A
  arrivals nodes given = column (rival_step given) nodes

-- A cover chooses gates and gives each one cut with at most k leaves. Every gate that an output names is chosen, and so is every gate that is a leaf of a chosen gate's cut.
pub record Rival (nodes : List Node) (outs : List ℕ) (k : ℕ) (chosen : ℕ → Bool) (given : ℕ → List ℕ) : Type 0 where
  pub gates : (v : ℕ) → chosen v ≡ true → (v < length nodes) × (is_gate (at nodes v) ≡ true)
  pub cuts : (v : ℕ) → chosen v ≡ true → (cut nodes v (given v) ≡ true) × (length (given v) ≤ k)
  pub outputs : (o : ℕ) → In o outs → is_gate (at nodes (node_of o)) ≡ true → chosen (node_of o) ≡ true
  pub leaves : (v u : ℕ) → chosen v ≡ true → mem u (given v) ≡ true → is_gate (at nodes u) ≡ true → chosen u ≡ true

-- no rival is earlier, at any gate that it chooses
abbrev pub BestIsFirst : {A : Type 0} → Delay A → Type 0
BestIsFirst {A} F = (nodes : List Node) (outs : List ℕ) (k : ℕ) (chosen : ℕ → Bool) (given : ℕ → List ℕ) → k ≤ most_leaves → Rival nodes outs k chosen given → (v : ℕ) → chosen v ≡ true → F.not_later (slice_index_or (best F nodes k) v F.start) (slice_index_or (arrivals F nodes given) v F.start) ≡ true

-- the cuts taken are a cover, and its arrivals are the best
abbrev pub BestIsReached : {A : Type 0} → Delay A → Type 0
BestIsReached {A} F = (nodes : List Node) (outs : List ℕ) (k : ℕ) → sound nodes ≡ true → 2 ≤ k → ((o : ℕ) → In o outs → node_of o < length nodes) → Rival nodes outs k (is_cell F nodes k outs) (taken_cut F nodes k) × (arrivals F nodes (taken_cut F nodes k) ≡ best F nodes k)

-- no rival is earlier, at any output
abbrev pub OutputsFirst : {A : Type 0} → Delay A → Type 0
OutputsFirst {A} F = (nodes : List Node) (outs : List ℕ) (k : ℕ) (chosen : ℕ → Bool) (given : ℕ → List ℕ) → sound nodes ≡ true → 2 ≤ k → k ≤ most_leaves → ((o : ℕ) → In o outs → node_of o < length nodes) → Rival nodes outs k chosen given → (o : ℕ) → In o outs → F.not_later (slice_index_or (arrivals F nodes (taken_cut F nodes k)) (node_of o) F.start) (slice_index_or (arrivals F nodes given) (node_of o) F.start) ≡ true

-- the table of the needed gates alone serves as well: a needed gate takes the same cut by it, from its list in any order
abbrev pub NeededSuffice : {A : Type 0} → Delay A → Type 0
NeededSuffice {A} F = (nodes : List Node) (outs : List ℕ) (k v : ℕ) (table : List A) (list : List (List ℕ)) → sound nodes ≡ true → 2 ≤ k → ((o : ℕ) → In o outs → node_of o < length nodes) → needed nodes outs v ≡ true → ((u : ℕ) → u < v → slice_index_or table u F.start ≡ tabled F nodes outs k u) → ((s : List ℕ) → elem s list ≡ elem s (least_cuts nodes k v)) → (taken F table list ≡ taken_cut F nodes k v) × (cell_arrival F table (taken F table list) ≡ slice_index_or (best F nodes k) v F.start)

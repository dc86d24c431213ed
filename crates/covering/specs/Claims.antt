-- What is claimed of the chosen cover, for every family, lawful drawing and width.
use Rattle.std.specs.Prelude.{◌≡◌, ℕ, ◌≤◌, Bool, true, List, length, slice_index_or}
use Rattle.drawing.specs.Sets.{In}
use Rattle.drawing.specs.Drawing.{Drawing, node_of, lawful, most_leaves}
use Rattle.drawing.specs.Values.{Binary, inputs_of, output_values}
use Rattle.family.specs.Family.{Delay}
use Rattle.choice.specs.Choice.{best, is_cell}
use Rattle.choice.specs.Rivals.{Rival}
use Rattle.cells.specs.declared.cell.Cell.{Cell}
use Rattle.cells.specs.Netlist.{Netlist, leaves_of, answers}
use Rattle.cells.specs.Laws.{lawful_cover}
use Rattle.cells.specs.Covers.{Covers}
use Rattle.covering.specs.Chosen.{cover_by, chosen}
use Rattle.covering.specs.Times.{cover_arrival}

-- what holds of every lawful drawing and each width that a part has
abbrev pub Everywhere : (Drawing → ℕ → Type 0) → Type 0
Everywhere P = (d : Drawing) (k : ℕ) → lawful d ≡ true → 2 ≤ k → k ≤ most_leaves → P d k

-- the netlist is lawful and covers the drawing
abbrev pub LawfullyCovers : Drawing → Netlist → Type 0
LawfullyCovers d n = (lawful_cover n ≡ true) × Covers d n

-- no cell has more than k leaves
abbrev pub Narrow : ℕ → Netlist → Type 0
Narrow k n = (c : Cell) → In c n.cells → length (leaves_of c) ≤ k

-- any rival is a lawful cover of the drawing, and no cell has more than k leaves
abbrev pub RivalsCover : Type 0
RivalsCover = Everywhere (λ d k. (picked : ℕ → Bool) (given : ℕ → List ℕ) → Rival d.nodes d.outputs k picked given → LawfullyCovers d (cover_by d picked given) × Narrow k (cover_by d picked given))

module _ {A : Type 0} (F : Delay A) where
  -- the chosen cover is a lawful cover of the drawing
  abbrev pub ChosenCovers : Type 0
  ChosenCovers = Everywhere (λ d k. LawfullyCovers d (chosen F d k))

  -- it answers every row of 0s and 1s with the values of the drawing's outputs
  abbrev pub ChosenAgrees : Type 0
  ChosenAgrees = Everywhere (λ d k. (row : List ℕ) → Binary row → answers (chosen F d k) row ≡ output_values d row)

  -- no cell has more than k leaves
  abbrev pub ChosenNarrow : Type 0
  ChosenNarrow = Everywhere (λ d k. Narrow k (chosen F d k))

  -- its inputs are the drawing's, and it has as many outputs
  abbrev pub ChosenFits : Type 0
  ChosenFits = Everywhere (λ d k. ((chosen F d k).inputs ≡ inputs_of d.nodes) × (length (chosen F d k).outputs ≡ length d.outputs))

  -- no lawful cover of the drawing whose cells have at most k leaves is earlier, at any output
  abbrev pub ChosenEarliest : Type 0
  ChosenEarliest = Everywhere (λ d k. (n : Netlist) → LawfullyCovers d n → Narrow k n → (o : ℕ) → In o d.outputs → F.not_later (cover_arrival F (chosen F d k) (node_of o)) (cover_arrival F n (node_of o)) ≡ true)

  -- no rival is earlier, at any output
  abbrev pub ChosenFirst : Type 0
  ChosenFirst = Everywhere (λ d k. (picked : ℕ → Bool) (given : ℕ → List ℕ) → Rival d.nodes d.outputs k picked given → (o : ℕ) → In o d.outputs → F.not_later (cover_arrival F (chosen F d k) (node_of o)) (cover_arrival F (cover_by d picked given) (node_of o)) ≡ true)

  -- each cell and each output of the chosen cover arrives at the best arrival of its node
  abbrev pub ChosenBest : Type 0
  ChosenBest =
      Everywhere (λ d k.
      ((v : ℕ) → is_cell F d.nodes k d.outputs v ≡ true → cover_arrival F (chosen F d k) v ≡ slice_index_or (best F d.nodes k) v F.start)
      × ((o : ℕ) → In o d.outputs → cover_arrival F (chosen F d k) (node_of o) ≡ slice_index_or (best F d.nodes k) (node_of o) F.start))

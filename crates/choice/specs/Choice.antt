-- How map chooses: the cut that each gate takes, the best arrivals, and the cells.
use Rattle.std.specs.Prelude.{◌≡◌, ℕ, ◌<◌, Bool, true, false, cond, not, ◌&&◌, ◌||◌, Option, Some, None, List, [], ◌∷◌, length, get_or, take, ◌==◌, nat_lt, slice_index_or}
use Rattle.std.specs.List.{range_with_len}
use Rattle.drawing.specs.declared.node.Node.{Node}
use Rattle.drawing.specs.declared.node.Node.TheVariants.{Constant, Input, Gate}
use Rattle.drawing.specs.Sets.{keep}
use Rattle.drawing.specs.Column.{column}
use Rattle.drawing.specs.Drawing.{at, is_gate}
use Rattle.drawing.specs.Reach.{reach_out, needed}
use Rattle.cuts.specs.Cuts.{least_cuts}
use Rattle.family.specs.Family.{Delay, cell_arrival}

-- the leaf at the first difference is smaller; a list that ends there comes first
abbrev pub lexi : List ℕ → List ℕ → Bool
lexi s [] = false
lexi [] (y ∷ ys) = true
lexi (x ∷ xs) (y ∷ ys) = nat_lt x y || (x == y && lexi xs ys)

-- fewer leaves, or as many and the smaller leaf at the first difference
abbrev pub smaller : List ℕ → List ℕ → Bool
smaller t s = nat_lt (length t) (length s) || (length t == length s && lexi t s)

module _ {A : Type 0} (F : Delay A) where
  -- t, whose cell arrives at x, is to be taken rather than s, whose cell arrives at y: it is earlier, or as early and t is smaller
  abbrev pub beats : A → List ℕ → A → List ℕ → Bool
  beats x t y s = not (F.not_later y x) || (F.not_later x y && smaller t s)

  -- t is to be taken rather than s, by the arrivals of the nodes
  abbrev pub rather : List A → List ℕ → List ℕ → Bool
  rather table t s = beats (cell_arrival F table t) t (cell_arrival F table s) s

  -- the cut taken, s or one of those behind it
  abbrev pub taken_from : List A → List ℕ → List (List ℕ) → List ℕ
  taken_from table s [] = s
  taken_from table s (t ∷ ts) = taken_from table (cond (rather table t s) t s) ts

  -- the cut taken of a list, by the arrivals of the nodes
  abbrev pub taken : List A → List (List ℕ) → List ℕ
  taken table [] = []
  taken table (s ∷ ss) = taken_from table s ss

  -- the best arrival of the next node, by those below it: the start, or for a gate the arrival of a cell by the cut taken of its list
  abbrev pub best_step : List Node → ℕ → List A → Node → A
  best_step nodes k lower Constant = F.start
  best_step nodes k lower Input = F.start
  best_step nodes k lower (Gate p) = cell_arrival F lower (taken lower (least_cuts nodes k (length lower)))

  -- the best arrivals of all nodes
  unfoldable pub best : List Node → ℕ → List A
  best nodes k = column (best_step nodes k) nodes

  -- the cut that a gate takes, by the best arrivals below it
  unfoldable pub taken_cut : List Node → ℕ → ℕ → List ℕ
  taken_cut nodes k v = taken (take v (best nodes k)) (least_cuts nodes k v)

  -- from a gate downwards to the leaves of the cut that it takes
  abbrev pub edges_of : List Node → ℕ → ℕ → List ℕ
  edges_of nodes k v = let c = taken_cut nodes k v in cond (is_gate (at nodes v)) c []

  -- v is a cell: a gate reached from the outputs through the cuts taken
  abbrev pub is_cell : List Node → ℕ → List ℕ → ℕ → Bool
  is_cell nodes k outs v = is_gate (at nodes v) && reach_out (edges_of nodes k) (length nodes) outs v

  -- the numbers of the cells, rising
  unfoldable pub cells : List Node → ℕ → List ℕ → List ℕ
  cells nodes k outs = keep (is_cell nodes k outs) (range_with_len 0 (length nodes))

  -- entry v of the arrival table: the best arrival of node v, or the start where it is a gate that is not needed
  abbrev pub tabled : List Node → List ℕ → ℕ → ℕ → A
  tabled nodes outs k v = let b = get_or (best nodes k) v F.start in cond (is_gate (at nodes v) && not (needed nodes outs v)) F.start b

  -- the arrival table is right below v
  abbrev pub Filled : List Node → List ℕ → ℕ → ℕ → List A → Type 0
  Filled nodes outs k v table = (u : ℕ) → u < v → slice_index_or table u F.start ≡ tabled nodes outs k u

  -- the cut that a node takes from its list, which a needed gate has, and no leaves where there is no list
  abbrev pub cut_by : List A → Option (List (List ℕ)) → List ℕ
  cut_by table None = []
  cut_by table (Some sets) = taken table sets

  -- the arrival of a node by the cut that it takes, and the start where there is no list
  abbrev pub arrival_by : List A → Option (List (List ℕ)) → A
  arrival_by table None = F.start
  arrival_by table (Some sets) = cell_arrival F table (taken table sets)

  -- the cut that a needed gate takes, and no leaves at any other node
  abbrev pub cut_at : List Node → List ℕ → ℕ → ℕ → List ℕ
  cut_at nodes outs k v = let c = taken_cut nodes k v in cond (needed nodes outs v) c []

  -- the cuts by node are right below v
  abbrev pub Chosen : List Node → List ℕ → ℕ → ℕ → List (List ℕ) → Type 0
  Chosen nodes outs k v sets = (u : ℕ) → u < v → slice_index_or sets u [] ≡ cut_at nodes outs k u

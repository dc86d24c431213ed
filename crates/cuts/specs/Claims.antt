use Rattle.std.specs.Prelude.{◌≡◌, ℕ, ◌<◌, true, List, [], length}
use Rattle.drawing.specs.declared.node.Pair.{Pair}
use Rattle.drawing.specs.declared.node.Node.{Node}
use Rattle.drawing.specs.declared.node.Node.TheVariants.{Gate}
use Rattle.drawing.specs.Sets.{mem, elem}
use Rattle.cuts.specs.declared.cut.Cut.{Cut}
use Rattle.cuts.specs.Antichain.{survivors, apart}
use Rattle.cuts.specs.Leaves.{sets_of}
use Rattle.cuts.specs.Lists.{Lists}
use Rattle.drawing.specs.Drawing.{at, node_of, sound}
use Rattle.cuts.specs.Cuts.{least_cuts, choices, joins, joined, minimal, Alike}
use Rattle.drawing.specs.Reach.{depends}

-- the list of a gate is what is minimal among the unions of its choices with at most k leaves
abbrev pub ListsJoin : Type 0
ListsJoin = (nodes : List Node) (k v : ℕ) (p : Pair) → sound nodes ≡ true → v < length nodes → at nodes v ≡ Gate p → (s : List ℕ) → elem s (least_cuts nodes k v) ≡ elem s (minimal (joined nodes k (node_of p.left) (node_of p.right)))

-- a leaf of a gate's list is a node that it depends on
abbrev pub LeavesDepend : Type 0
LeavesDepend = (nodes : List Node) (k v u : ℕ) (s : List ℕ) → sound nodes ≡ true → v < length nodes → elem s (least_cuts nodes k v) ≡ true → mem u s ≡ true → depends nodes u v ≡ true

-- What survives of the unions of the choices, taken in any order, is the list: the same sets, and as many.
abbrev pub SurvivorsAre : Type 0
SurvivorsAre = (nodes : List Node) (k v : ℕ) (p : Pair) → sound nodes ≡ true → v < length nodes → at nodes v ≡ Gate p → (lefts rights : List (List ℕ)) → Alike lefts (choices nodes k (node_of p.left)) → Alike rights (choices nodes k (node_of p.right)) → let kept = survivors [] (joins k lefts rights) in Alike kept (least_cuts nodes k v) × (length kept ≡ length (least_cuts nodes k v))

-- Of the rows that are a list none lies inside another, so each cut stands once.
abbrev pub ListsApart : Type 0
ListsApart = (nodes : List Node) (k v : ℕ) (rows : List Cut) → Lists nodes k v rows → apart (sets_of rows) ≡ true

-- The cuts that the needed gates take, and the table of arrivals.
use Rattle.std.specs.Prelude.{◌≡◌, ℕ, true, List, map, drop}
use Rattle.std.specs.List.{range_with_len}
use Rattle.family.specs.Family.{Delay}
use Rattle.choice.specs.Choice.{tabled, Filled}
use Rattle.fitter.specs.declared.job.Job.{Job}
use Rattle.fitter.specs.Book.{Book, size, needed_in}
use Rattle.fitter.specs.Jobs.{book_of, is_kept}

-- every needed gate has its list kept
abbrev pub AllKept : Job → Type 0
AllKept j = (u : ℕ) → needed_in (book_of j) u ≡ true → is_kept j u ≡ true

module _ {A : Type 0} (F : Delay A) (b : Book) where
  -- the arrival table: for each node its best arrival, or the start where a gate is not needed
  abbrev pub arrival_table : List A
  arrival_table = map (tabled F b.drawing.nodes b.drawing.outputs b.width) (range_with_len 0 (size b))

  -- the nodes below v have their arrivals in the table, and behind the nodes it is as it was
  pub record Arrived (v : ℕ) (old new : List A) : Type 0 where
    pub filled : Filled F b.drawing.nodes b.drawing.outputs b.width v new
    pub behind : drop (size b) new ≡ drop (size b) old

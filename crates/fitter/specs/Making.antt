-- The lists that map makes.
use Rattle.std.specs.Prelude.{◌≡◌, ℕ, ◌<◌, Bool, true, false, not, ◌&&◌, ◌||◌, List, length, Ok, Err, Result, ◌==◌, nat_lt}
use Rattle.std.specs.List.{range_with_len}
use Rattle.drawing.specs.declared.refusal.Refusal.{Refusal}
use Rattle.drawing.specs.declared.refusal.Refusal.TheVariants.{Crowded}
use Rattle.drawing.specs.Drawing.{Drawing, at, is_gate, fanins}
use Rattle.drawing.specs.Sets.{keep, In}
use Rattle.choice.specs.Marks.{Marks}
use Rattle.fitter.specs.declared.job.Job.{Job}
use Rattle.fitter.specs.Book.{Book, size, needed_in, too_many, crowded_at}
use Rattle.fitter.specs.Jobs.{book_of, is_kept}

-- marked is exactly what the outputs depend on
abbrev pub MarksNeeded : Drawing → List Bool → Type 0
MarksNeeded d marks = Marks (λ w. fanins (at d.nodes w)) (length d.nodes) d.outputs marks

-- how many lists below v are made: those of the needed gates that are not kept
abbrev pub made_below : Book → (ℕ → Bool) → ℕ → ℕ
made_below b held v = length (keep (λ u. needed_in b u && not (held u)) (range_with_len 0 v))

-- which lists are kept after the needed gates below v were gone through
abbrev pub kept_below : Book → (ℕ → Bool) → ℕ → ℕ → Bool
kept_below b held v u = held u || (nat_lt u v && needed_in b u)

-- the fanins of v that are gates have their lists kept
abbrev pub FaninsKept : Job → ℕ → Type 0
FaninsKept j v =
    (f : ℕ) → In f (fanins (at (book_of j).drawing.nodes v)) → is_gate (at (book_of j).drawing.nodes f) ≡ true → is_kept j f ≡ true

-- the list of gate v is made, unless it was kept: whether it was made, or the refusal of too many cuts, which leaves the job
abbrev pub Making : ℕ → Job → Result Bool Refusal → Job → Type 0
Making v i (Ok new) j =
    (book_of j ≡ book_of i) × ((u : ℕ) → is_kept j u ≡ (is_kept i u || u == v)) × (new ≡ not (is_kept i v))
Making v i (Err e) j = (j ≡ i) × (e ≡ Crowded v) × (too_many (book_of i) v ≡ true)

-- the book stays, all needed gates are kept besides what was kept, n lists were made, and no gate is crowded
pub record Ready (i : Job) (n : ℕ) (j : Job) : Type 0 where
  pub same : book_of j ≡ book_of i
  pub kept : (u : ℕ) → is_kept j u ≡ kept_below (book_of i) (is_kept i) (size (book_of i)) u
  pub made : n ≡ made_below (book_of i) (is_kept i) (size (book_of i))
  pub fits : (u : ℕ) → crowded_at (book_of i) u ≡ false

-- the book stays, the needed gates below g are kept besides what was kept, g is crowded, and no gate below it is
pub record Stopped (i : Job) (g : ℕ) (j : Job) : Type 0 where
  pub same : book_of j ≡ book_of i
  pub kept : (u : ℕ) → is_kept j u ≡ kept_below (book_of i) (is_kept i) g u
  pub crowd : crowded_at (book_of i) g ≡ true
  pub lowest : (u : ℕ) → u < g → crowded_at (book_of i) u ≡ false

-- going through all needed gates: ready, or stopped at a crowded gate
abbrev pub MakingAll : Job → Result ℕ Refusal → Job → Type 0
MakingAll i (Ok n) j = Ready i n j
MakingAll i (Err e) j = (g : ℕ) × (e ≡ Crowded g) × Stopped i g j

-- the list of node v is made if v is a needed gate, unless it was kept: whether it was made, or the refusal of a crowded gate
abbrev pub MakingNeeded : ℕ → Job → Result Bool Refusal → Job → Type 0
MakingNeeded v i (Ok new) j =
    (book_of j ≡ book_of i) × ((u : ℕ) → is_kept j u ≡ (is_kept i u || (u == v && needed_in (book_of i) u)))
    × (new ≡ (needed_in (book_of i) v && not (is_kept i v)))
MakingNeeded v i (Err e) j = (j ≡ i) × (e ≡ Crowded v) × (crowded_at (book_of i) v ≡ true)

-- the needed gates below v were gone through: the book stays, they are kept besides what was kept, and n lists were made
pub record Progress (i : Job) (v n : ℕ) (j : Job) : Type 0 where
  pub same : book_of j ≡ book_of i
  pub kept : (u : ℕ) → is_kept j u ≡ kept_below (book_of i) (is_kept i) v u
  pub made : n ≡ made_below (book_of i) (is_kept i) v

-- the needed gates below v have their lists kept
abbrev pub KeptUpTo : Job → ℕ → Type 0
KeptUpTo j v = (u : ℕ) → u < v → needed_in (book_of j) u ≡ true → is_kept j u ≡ true

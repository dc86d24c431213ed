-- What map owes: by its own arguments and job, and by any history of calls that led to the job.
use Rattle.std.specs.Prelude.{◌≡◌, ℕ, ◌<◌, ◌≤◌, Bool, true, false, List, ◌++◌, length, drop, is_ok, Ok, Err, Result, ◌≢◌}
use Rattle.drawing.specs.declared.refusal.Refusal.{Refusal}
use Rattle.drawing.specs.declared.refusal.Refusal.TheVariants.{NodesFull, OutputsFull, BadLiteral, NotAGate, BadWidth, Text, TooShort, Crowded, BadBit, NoSection}
use Rattle.drawing.specs.Drawing.{node_of}
use Rattle.drawing.specs.Sets.{In}
use Rattle.drawing.specs.Values.{Binary, inputs_of, output_values}
use Rattle.family.specs.Family.{Delay}
use Rattle.choice.specs.Rivals.{Rival}
use Rattle.cells.specs.declared.cell.Cell.{Cell}
use Rattle.cells.specs.declared.cover.Cover.{Cover}
use Rattle.cells.specs.Netlist.{Netlist, leaves_of, answers}
use Rattle.cells.specs.Netlists.{netlist_of}
use Rattle.covering.specs.Chosen.{chosen, cover_by}
use Rattle.covering.specs.Times.{cover_arrival}
use Rattle.fitter.specs.declared.job.Job.{Job}
use Rattle.fitter.specs.Book.{Book, size, crowded_at}
use Rattle.fitter.specs.Jobs.{book_of}
use Rattle.fitter.specs.Making.{Ready, Stopped}
use Rattle.fitter.specs.Taking.{arrival_table}

-- The caller hands in a family, a cover and an arrival table.
module _ {A : Type 0} (F : Delay A) where
  -- an accepted map: the lists of all needed gates are kept, the cover is the chosen one, and the table has the arrivals
  pub record Accepted (i : Job) (table : List A) (p : ℕ × ℕ) (j : Job) (cover : Netlist) (after : List A) : Type 0 where
    -- the family has the job's width
    pub fitting : F.width ≡ i.width
    -- the arrival table has an entry for each node
    pub room : size (book_of i) ≤ length table
    -- the lists of all needed gates are kept, and the second number tells how many were made
    pub ready : Ready i p.1 j
    -- the cover is the chosen one
    pub cover_chosen : cover ≡ chosen F (book_of i).drawing i.width
    -- the first number is that of its cells
    pub cell_count : p.0 ≡ length cover.cells
    -- the table has the arrivals, and what stood behind them
    pub arrivals : after ≡ arrival_table F (book_of i) ++ drop (size (book_of i)) table

  -- the caller's cover and table are as they were
  pub record Untouched (cover cover' : Cover) (table table' : List A) : Type 0 where
    pub same_cover : cover' ≡ cover
    pub same_table : table' ≡ table

  -- a map by a job: accepted; or refused for a family of another width, then for a table with fewer entries than nodes,
  -- then for the lowest crowded gate, below which the needed gates are kept
  abbrev pub Mapped : Job → Cover → List A → Result (ℕ × ℕ) Refusal → Job → Cover → List A → Type 0
  Mapped i cover table (Ok p) j cover' table' = Accepted i table p j (netlist_of cover') table'
  Mapped i cover table (Err BadWidth) j cover' table' = (F.width ≢ i.width) × (j ≡ i) × Untouched cover cover' table table'
  Mapped i cover table (Err TooShort) j cover' table' =
      (F.width ≡ i.width) × (length table < size (book_of i)) × (j ≡ i) × Untouched cover cover' table table'
  Mapped i cover table (Err (Crowded g)) j cover' table' =
      (F.width ≡ i.width) × (size (book_of i) ≤ length table) × Stopped i g j × Untouched cover cover' table table'
  Mapped i cover table (Err NodesFull) j cover' table' = ⊥
  Mapped i cover table (Err OutputsFull) j cover' table' = ⊥
  Mapped i cover table (Err BadLiteral) j cover' table' = ⊥
  Mapped i cover table (Err NotAGate) j cover' table' = ⊥
  Mapped i cover table (Err (Text f)) j cover' table' = ⊥
  Mapped i cover table (Err (BadBit n)) j cover' table' = ⊥
  Mapped i cover table (Err NoSection) j cover' table' = ⊥

  -- a cover answers for a book: it is the chosen one, with the drawing's inputs, as many outputs and their values under every row;
  -- no cell has more leaves than the width, and no rival is earlier at any output
  pub record Serves (b : Book) (cover : Netlist) : Type 0 where
    -- it is the chosen one
    pub is_chosen : cover ≡ chosen F b.drawing b.width
    -- its inputs are the drawing's
    pub same_inputs : cover.inputs ≡ inputs_of b.drawing.nodes
    -- it has as many outputs as the drawing
    pub as_many_outputs : length cover.outputs ≡ length b.drawing.outputs
    -- under every row its outputs have the drawing's values
    pub right_values : (row : List ℕ) → Binary row → answers cover row ≡ output_values b.drawing row
    -- no cell has more leaves than the width
    pub few_leaves : (c : Cell) → In c cover.cells → length (leaves_of c) ≤ b.width
    -- no rival is earlier at any output
    pub none_earlier : (picked : ℕ → Bool) (given : ℕ → List ℕ) → Rival b.drawing.nodes b.drawing.outputs b.width picked given →
        (o : ℕ) → In o b.drawing.outputs → F.not_later (cover_arrival F cover (node_of o)) (cover_arrival F (cover_by b.drawing picked given) (node_of o)) ≡ true

  -- map answers for a book: where it accepts, the cover serves the book; and given a family of the book's width and a table
  -- with an entry for each node, it refuses exactly when a needed gate has more least cuts than a list holds
  pub record AnswersFor (b : Book) (entries : ℕ) (r : Result (ℕ × ℕ) Refusal) (cover : Netlist) : Type 0 where
    pub serves : is_ok r ≡ true → Serves b cover
    pub crowded_refused : F.width ≡ b.width → size b ≤ entries → (v : ℕ) → crowded_at b v ≡ true → is_ok r ≡ false
    pub refused_crowded : F.width ≡ b.width → size b ≤ entries → is_ok r ≡ false → (v : ℕ) × (crowded_at b v ≡ true)

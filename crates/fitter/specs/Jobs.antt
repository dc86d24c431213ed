-- What a job holds.
use Rattle.std.specs.Prelude.{ℕ, Bool}
use Rattle.drawing.specs.Tables.{drawing_of}
use Rattle.fitter.specs.declared.job.Job.{Job}
use Rattle.fitter.specs.Book.{Book, book}
use Rattle.fitter.specs.Keeping.{held_of}

-- the book of a job: its drawing and its width
abbrev pub book_of : Job → Book
book_of j = book (drawing_of j.table) j.width

-- the list of node v is kept
abbrev pub is_kept : Job → ℕ → Bool
is_kept j v = held_of j.lists v

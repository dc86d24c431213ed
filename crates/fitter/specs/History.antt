-- Histories: the calls that led from a new job to a job.
use Rattle.std.specs.Prelude.{◌≡◌, ℕ, false, List, [], ◌∷◌}
use Rattle.fitter.specs.declared.job.Job.{Job}
use Rattle.fitter.specs.Book.{new_book}
use Rattle.fitter.specs.Calls.{Call, book_after, kept_after}
use Rattle.fitter.specs.Jobs.{book_of, is_kept}

-- what a call does to a job: its book is then the book after the call, and its kept lists are those kept after the call
pub record Did (c : Call) (before after : Job) : Type 0 where
  pub book : book_of after ≡ book_after c (book_of before)
  pub lists : (u : ℕ) → is_kept after u ≡ kept_after c (book_of before) (is_kept before) u

-- a job just made: its book is that before any call, and no list is kept
pub record Fresh (j : Job) : Type 0 where
  pub book : book_of j ≡ new_book
  pub lists : (u : ℕ) → is_kept j u ≡ false

-- the calls, the latest first, led from a new job to this one
abbrev pub Handled : List Call → Job → Type 0
Handled [] j = Fresh j
Handled (c ∷ h) j = (before : Job) × (Handled h before × Did c before j)

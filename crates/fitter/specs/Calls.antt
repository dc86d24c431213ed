-- The calls with their arguments, and what they make of a book and of the kept lists, by the arguments alone.
use Rattle.std.specs.Prelude.{ℕ, Bool, false, cond, not, ◌&&◌, ◌||◌, List, [], ◌∷◌, is_ok, Ok, Err, Result, ◌==◌, nat_le, nat_lt}
use Rattle.drawing.specs.declared.node.Pair.{Pair}
use Rattle.drawing.specs.declared.refusal.Fault.{Fault}
use Rattle.drawing.specs.Calls.{after_input, after_gate, after_output, after_retie, retie_answer}
use Rattle.drawing.specs.Drawing.{Drawing}
use Rattle.drawing.specs.Reach.{depends}
use Rattle.family.specs.Supplied.{is_width}
use Rattle.aiger.specs.Reads.{read}
use Rattle.fitter.specs.Book.{Book, book, new_book, size, needed_in, stop_of}

-- a call with its arguments
pub data Call : Type 0 where
  -- input: adds an input
  add_input : Call
  -- gate: adds a gate with these two literals
  add_gate : Pair → Call
  -- output: adds an output with this literal
  add_output : ℕ → Call
  -- retie: gives this gate these two literals
  retie_gate : ℕ → Pair → Call
  -- width: sets the width
  set_width : ℕ → Call
  -- load: replaces the drawing by that of this text
  load_text : List ℕ → Call
  -- map: named by its family's width and by how many entries the caller's arrival table has
  map_by : ℕ → ℕ → Call

-- the drawing of an accepted text takes the place of the one before
abbrev pub drawing_from : Result Drawing Fault → Drawing → Drawing
drawing_from (Ok d) old = d
drawing_from (Err f) old = old

-- the book after a call; a call that is refused leaves it, and so does every map
abbrev pub book_after : Call → Book → Book
book_after add_input b = book (after_input b.drawing) b.width
book_after (add_gate p) b = book (after_gate b.drawing p) b.width
book_after (add_output l) b = book (after_output b.drawing l) b.width
book_after (retie_gate g p) b = book (after_retie b.drawing g p) b.width
book_after (set_width k) b = book b.drawing (cond (is_width k) k b.width)
book_after (load_text t) b = book (drawing_from (read t) b.drawing) b.width
book_after (map_by w n) b = b

-- which lists are kept after a call, from the book before it and the lists that were kept:
-- a gate tied anew and all that depends on it are forgotten, a new width or drawing forgets everything,
-- and map keeps the needed gates as far as it gets
abbrev pub kept_after : Call → Book → (ℕ → Bool) → ℕ → Bool
kept_after add_input b held u = held u
kept_after (add_gate p) b held u = held u
kept_after (add_output l) b held u = held u
kept_after (retie_gate g p) b held u = cond (is_ok (retie_answer b.drawing g p)) (held u && not (u == g || depends b.drawing.nodes g u)) (held u)
kept_after (set_width k) b held u = cond (is_width k && not (k == b.width)) false (held u)
kept_after (load_text t) b held u = cond (is_ok (read t)) false (held u)
kept_after (map_by w n) b held u = cond (w == b.width && nat_le (size b) n) (held u || (nat_lt u (stop_of b) && needed_in b u)) (held u)

-- the book after a history, whose latest call comes first
abbrev pub book_of_calls : List Call → Book
book_of_calls [] = new_book
book_of_calls (c ∷ h) = book_after c (book_of_calls h)

-- which lists are kept after a history, whose latest call comes first
abbrev pub kept_of_calls : List Call → ℕ → Bool
kept_of_calls [] u = false
kept_of_calls (c ∷ h) u = kept_after c (book_of_calls h) (kept_of_calls h) u

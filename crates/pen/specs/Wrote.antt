-- What a pen has written.
use Rattle.std.specs.Prelude.{◌≡◌, ℕ, ◌+◌, ◌-◌, ◌^◌, List, [], ◌∷◌, min, slice_set}
use Rattle.pen.specs.declared.Pen.{Pen}

-- the place behind p; the last one that is counted has none
abbrev pub next_place : ℕ → ℕ
next_place p = min (p + 1) (2 ^ 64 - 1)

-- a buffer and a place in it, after bytes are laid there; what falls past the buffer's end is dropped
abbrev pub over : List ℕ → ℕ → List ℕ → List ℕ × ℕ
over out p [] = (out, p)
over out p (b ∷ bs) = over (slice_set out p b) (next_place p) bs

-- the pen has written the bytes: it is on the same buffer, which holds them from its old place on, and stands behind them
pub record Wrote (old : Pen) (bytes : List ℕ) (new : Pen) : Type 0 where
  pub same : new.out.ghost_name ≡ old.out.ghost_name
  pub laid : (new.out.now, new.at) ≡ over old.out.now old.at bytes

-- What the writer does to the caller's buffer.
use Rattle.std.specs.Prelude.{◌≡◌, ℕ, ◌<◌, ◌≤◌, List, ◌++◌, length, drop, Ok, Err, Result}
use Rattle.drawing.specs.declared.refusal.Refusal.{Refusal}
use Rattle.drawing.specs.declared.refusal.Refusal.TheVariants.{TooShort}

-- the text ts stands at the front of the buffer, which was xs and is ys, and its length is answered; or the buffer was too
-- short and stays
abbrev pub Copied : List ℕ → List ℕ → Result ℕ Refusal → List ℕ → Type 0
Copied ts xs (Ok n) ys = (length ts ≤ length xs) × (n ≡ length ts) × (ys ≡ ts ++ drop n xs)
Copied ts xs (Err e) ys = (length xs < length ts) × (e ≡ TooShort) × (ys ≡ xs)

-- What it means to read a text: to answer what is written so.
use Rattle.std.specs.Prelude.{◌≡◌, ℕ, List, Some, None, Option, ◌≢◌}

-- a text is read as what fits and is written so; it is refused where nothing that fits is
abbrev pub Reads : {X : Type 0} → (X → Type 0) → (X → List ℕ) → List ℕ → Option X → Type 0
Reads {X = X} Fits written text None = (x : X) → Fits x → written x ≢ text
Reads Fits written text (Some x) = Fits x × (written x ≡ text)

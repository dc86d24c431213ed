-- What holds of the format.
use Rattle.std.specs.Prelude.{◌≡◌, ℕ, ◌+◌, ◌<◌, ◌≤◌, true, cond, List, [], ◌∷◌, ◌++◌, length, take, Ok, Err, codes, ◌==◌}
use Rattle.drawing.specs.declared.node.Node.TheVariants.{Constant, Input, Gate}
use Rattle.drawing.specs.declared.refusal.Rule.TheVariants.{Pattern, Figures, Literal}
use Rattle.drawing.specs.declared.refusal.Fault.{Fault}
use Rattle.drawing.specs.Drawing.{Drawing, drawing, lawful}
use Rattle.aiger.specs.Text.{text, most_bytes}
use Rattle.aiger.specs.Reads.{read, fault}

-- an accepted text is the text of its drawing, which is lawful
abbrev pub OnlyTexts : Type 0
OnlyTexts = (t : List ℕ) (d : Drawing) → read t ≡ Ok d → (t ≡ text d) × (lawful d ≡ true)

-- the text of a lawful drawing is accepted, and gives that drawing
abbrev pub ReadsBack : Type 0
ReadsBack = (d : Drawing) → lawful d ≡ true → read (text d) ≡ Ok d

-- the text of a lawful drawing has at most 4,376 bytes
abbrev pub ShortTexts : Type 0
ShortTexts = (d : Drawing) → lawful d ≡ true → length (text d) ≤ most_bytes

-- how many lines end in these bytes: the number of bytes 10
abbrev pub ends : List ℕ → ℕ
ends [] = 0
ends (b ∷ bs) = cond (b == 10) 1 0 + ends bs

-- a fault names a byte of the text, or its end, and as its line the number of bytes 10 before that byte
pub record Placed (t : List ℕ) (f : Fault) : Type 0 where
  pub within : f.byte ≤ length t
  pub line : ends (take f.byte t) ≡ f.line

-- every fault of a text is placed so
abbrev pub PlacesFaults : Type 0
PlacesFaults = (t : List ℕ) (f : Fault) → read t ≡ Err f → Placed t f

-- where a byte of the text breaks the pattern, every text with the same bytes up to and including that byte is refused
-- alike: no accepted text begins so
abbrev pub BreaksForGood : Type 0
BreaksForGood =
    (t u : List ℕ) (f : Fault) → read t ≡ Err f → f.rule ≡ Pattern → f.byte < length t
    → read (take (f.byte + 1) t ++ u) ≡ Err f

-- where a text breaks the pattern by ending early, every beginning of it does, too
abbrev pub EndsEarly : Type 0
EndsEarly =
    (t : List ℕ) (f : Fault) → read t ≡ Err f → f.rule ≡ Pattern → f.byte ≡ length t
    → (n : ℕ) → n ≤ length t → (line : ℕ) × (read (take n t) ≡ fault Pattern n line)

-- The definitions at texts that are written out.

-- a drawing of three inputs and two gates
abbrev pub sample : Drawing
sample =
    drawing
    (Constant ∷ Input ∷ Input ∷ Input ∷ Gate (record { left = 2; right = 4 }) ∷ Gate (record { left = 8; right = 6 }) ∷ [])
    (11 ∷ [])

-- the text of that drawing
abbrev pub sample_text : List ℕ
sample_text = codes "aag 5 3 0 1 2\n2\n4\n6\n11\n8 2 4\n10 8 6\n"

-- what the definitions give at these texts
pub record Examples : Type 0 where
  -- the text of the drawing above
  pub written : text sample ≡ sample_text
  -- and that text, read
  pub read_back : read sample_text ≡ Ok sample
  -- a line that ends early
  pub short : read (codes "aag 1 1 0 0 0\n2") ≡ fault Pattern 15 1
  -- a number that begins with 0
  pub leading : read (codes "aag 01") ≡ fault Pattern 5 0
  -- the header's figures
  pub uneven : read (codes "aag 2 1 0 0 0\n2\n") ≡ fault Figures 0 0
  -- the pattern before the figures
  pub before : read (codes "aag 2 1 0 0 0 \n2\n") ≡ fault Pattern 13 0
  -- an odd input literal
  pub odd : read (codes "aag 2 2 0 0 0\n2\n5\n") ≡ fault Literal 16 2
  -- a gate that is an input
  pub taken : read (codes "aag 2 1 0 0 1\n4\n4 2 2\n") ≡ fault Literal 16 2
  -- a gate over itself
  pub circular : read (codes "aag 2 1 0 0 1\n2\n4 2 5\n") ≡ fault Literal 16 2
  -- inputs and gates may stand in any order of numbers
  pub mixed : read (codes "aag 2 1 0 0 1\n4\n2 1 1\n") ≡ Ok (drawing (Constant ∷ Gate (record { left = 1; right = 1 }) ∷ Input ∷ []) [])
  -- a byte behind the last line
  pub trailing : read (codes "aag 0 0 0 0 0\n\n") ≡ fault Pattern 14 1

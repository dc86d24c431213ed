-- The fields of a line, with one space between two. A number is in decimal.
use Rattle.std.specs.Prelude.{ℕ, ◌<◌, ◌≤◌, Bool, List, [], ◌∷◌, ◌++◌, decimal}
use Rattle.std.specs.Char.{is_ascii_digit}
use Rattle.drawing.specs.Sets.{every}
use Rattle.drawing.specs.declared.node.Pair.{Pair}
use Rattle.script.specs.declared.command.Kind.{Kind}
use Rattle.script.specs.Names.{kind_name}

-- a field, a space, and the rest
abbrev pub then : List ℕ → List ℕ → List ℕ
then field rest = field ++ 32 ∷ rest

-- a number of 8 bits, as the gates and widths of a line are
abbrev pub IsByte : ℕ → Type 0
IsByte n = n < 256

-- a number of 16 bits, as the literals of a line are
abbrev pub IsLiteral : ℕ → Type 0
IsLiteral n = n < 65536

-- how many bytes the text of a load may have: at most 65,536
abbrev pub IsSize : ℕ → Type 0
IsSize n = n ≤ 65536

-- both literals have 16 bits
abbrev pub IsPair : Pair → Type 0
IsPair p = IsLiteral p.left × IsLiteral p.right

-- two literals, a space between them
abbrev pub pair_text : Pair → List ℕ
pair_text p = then (decimal p.left) (decimal p.right)

-- a gate of 8 bits, and two literals of 16
abbrev pub IsTie : (ℕ × Pair) → Type 0
IsTie t = IsByte t.0 × IsPair t.1

-- a gate and two literals, a space between two
abbrev pub tie_text : (ℕ × Pair) → List ℕ
tie_text t = then (decimal t.0) (pair_text t.1)

-- the width behind a family's name has 8 bits
abbrev pub IsFamily : (Kind × ℕ) → Type 0
IsFamily f = IsByte f.1

-- a family's name, a space, and a width
abbrev pub family_text : (Kind × ℕ) → List ℕ
family_text f = then (kind_name f.0) (decimal f.1)

-- all bytes are digits
abbrev pub are_digits : List ℕ → Bool
are_digits text = every is_ascii_digit text

-- the digits of a row, a space in front of them; a row of none leaves nothing
abbrev pub row_text : List ℕ → List ℕ
row_text [] = []
row_text (d ∷ ds) = 32 ∷ d ∷ ds

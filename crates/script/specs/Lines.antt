-- The lines of a script.
use Rattle.std.specs.Prelude.{◌≡◌, ℕ, true, List, ◌∷◌, ◌++◌, codes, decimal}
use Rattle.script.specs.declared.command.Command.{Command}
use Rattle.script.specs.declared.command.Command.TheVariants.{Input, Gate, Output, Retie, Width, Load, Map, Arrivals, Cover, Evaluate, Write, Kept, List as ListOf, Comment}
use Rattle.script.specs.Fields.{then, IsByte, IsLiteral, IsSize, IsPair, pair_text, tie_text, family_text, are_digits, row_text}

-- the line of a command, without its end
abbrev pub line_of : Command → List ℕ
line_of Input = codes "input"
line_of (Gate p) = then (codes "gate") (pair_text p)
line_of (Output l) = then (codes "output") (decimal l)
line_of (Retie g p) = then (codes "retie") (tie_text (g, p))
line_of (Width k) = then (codes "width") (decimal k)
line_of (Load n) = then (codes "load") (decimal n)
line_of (Map k w) = then (codes "map") (family_text (k, w))
line_of Arrivals = codes "arrivals"
line_of Cover = codes "cover"
line_of (Evaluate row) = codes "evaluate" ++ row_text row.now
line_of Write = codes "write"
line_of Kept = codes "kept"
line_of (ListOf g) = then (codes "list") (decimal g)
line_of (Comment text) = 35 ∷ text.now

-- the numbers of a command fit their types, and a row has digits only
abbrev pub Fits : Command → Type 0
Fits Input = Unit {0}
Fits (Gate p) = IsPair p
Fits (Output l) = IsLiteral l
Fits (Retie g p) = IsByte g × IsPair p
Fits (Width k) = IsByte k
Fits (Load n) = IsSize n
Fits (Map k w) = IsByte w
Fits Arrivals = Unit {0}
Fits Cover = Unit {0}
Fits (Evaluate row) = are_digits row.now ≡ true
Fits Write = Unit {0}
Fits Kept = Unit {0}
Fits (ListOf g) = IsByte g
Fits (Comment text) = Unit {0}

-- The words that say what a line asks for, and the names of the families.
use Rattle.std.specs.Prelude.{ℕ, Bool, not, List, codes, ◌==◌}
use Rattle.drawing.specs.Sets.{every}
use Rattle.script.specs.declared.command.Kind.{Kind}
use Rattle.script.specs.declared.command.Kind.TheVariants.{Levels, Pins}
use Rattle.script.specs.declared.verb.Verb.{Verb}
use Rattle.script.specs.declared.verb.Verb.TheVariants.{Input, Gate, Output, Retie, Width, Load, Map, Arrivals, Cover, Evaluate, Write, Kept, List as ListOf}

-- no space is in the text
abbrev pub is_word : List ℕ → Bool
is_word text = every (λ b. not (b == 32)) text

-- the name of a supplied family
abbrev pub kind_name : Kind → List ℕ
kind_name Levels = codes "levels"
kind_name Pins = codes "pins"

-- the first word of a line that asks for this
abbrev pub verb_name : Verb → List ℕ
verb_name Input = codes "input"
verb_name Gate = codes "gate"
verb_name Output = codes "output"
verb_name Retie = codes "retie"
verb_name Width = codes "width"
verb_name Load = codes "load"
verb_name Map = codes "map"
verb_name Arrivals = codes "arrivals"
verb_name Cover = codes "cover"
verb_name Evaluate = codes "evaluate"
verb_name Write = codes "write"
verb_name Kept = codes "kept"
verb_name ListOf = codes "list"

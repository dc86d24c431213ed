-- The numbers of the refusals, and the text that is printed of one.
use Rattle.std.specs.Prelude.{ℕ, List, [], ◌++◌, codes, decimal}
use Rattle.drawing.specs.declared.refusal.Rule.{Rule}
use Rattle.drawing.specs.declared.refusal.Rule.TheVariants.{Pattern, Figures, Literal}
use Rattle.drawing.specs.declared.refusal.Refusal.{Refusal}
use Rattle.drawing.specs.declared.refusal.Refusal.TheVariants.{NodesFull, OutputsFull, BadLiteral, NotAGate, BadWidth, Text, TooShort, Crowded, BadBit, NoSection}

-- a fault of a text: 6 its pattern, 7 its header's figures, 8 a literal
abbrev pub rule_number : Rule → ℕ
rule_number Pattern = 6
rule_number Figures = 7
rule_number Literal = 8

-- the number that a refusal goes by
abbrev pub number_of : Refusal → ℕ
number_of NodesFull = 1
number_of OutputsFull = 2
number_of BadLiteral = 3
number_of NotAGate = 4
number_of BadWidth = 5
number_of (Text f) = rule_number f.rule
number_of TooShort = 9
number_of (Crowded v) = 10
number_of (BadBit i) = 11
number_of NoSection = 12

-- the place of a refusal, where it has one: a fault's byte and line, a gate, or an index
abbrev pub place_text : Refusal → List ℕ
place_text NodesFull = []
place_text OutputsFull = []
place_text BadLiteral = []
place_text NotAGate = []
place_text BadWidth = []
place_text (Text f) = codes " at " ++ decimal f.byte ++ codes " line " ++ decimal f.line
place_text TooShort = []
place_text (Crowded v) = codes " at " ++ decimal v
place_text (BadBit i) = codes " at " ++ decimal i
place_text NoSection = []

-- what is printed of a refusal: its number, and its place
abbrev pub refusal_text : Refusal → List ℕ
refusal_text r = codes "refused " ++ decimal (number_of r) ++ place_text r

-- What is printed for a text.
use Rattle.std.specs.Prelude.{◌≡◌, ℕ, ◌<◌, ◌≤◌, true, false, ◌⊎◌, List, ◌++◌, length, drop, Ok, Err, Result}
use Rattle.std.specs.List.{flat_map}
use Rattle.drawing.specs.declared.refusal.Refusal.{Refusal}
use Rattle.drawing.specs.declared.refusal.Refusal.TheVariants.{NodesFull, OutputsFull, BadLiteral, NotAGate, BadWidth, Text, TooShort, Crowded, BadBit, NoSection}
use Rattle.drawing.specs.Drawing.{Drawing}
use Rattle.family.specs.Supplied.{levels}
use Rattle.cells.specs.Netlist.{Netlist}
use Rattle.covering.specs.Chosen.{chosen}
use Rattle.aiger.specs.Reads.{read}
use Rattle.blif.specs.Text.{texts}
use Rattle.fitter.specs.Book.{book, crowded_at}

-- the cell list of a netlist: all sections in their order
unfoldable pub cell_list : Netlist → List ℕ
cell_list n = flat_map (λ t. t) (texts n)

-- bytes are written at the front of a buffer, and what stood behind them stays; or they do not fit
abbrev pub Printed : List ℕ → List ℕ → Result ℕ Refusal → List ℕ → Type 0
Printed bytes out (Ok n) out' = (n ≡ length bytes) × (out' ≡ bytes ++ drop n out)
Printed bytes out (Err e) out' = (e ≡ TooShort) × (length out < length bytes)

-- the most bytes that a text may have
abbrev pub most_bytes : ℕ
most_bytes = 8192

-- the cell list of a drawing: that of the cover chosen by levels with cells of four leaves
abbrev pub drawing_list : Drawing → List ℕ
drawing_list d = cell_list (chosen (levels 4) d 4)

-- the lowest needed gate with more least cuts of at most four leaves than a list holds
abbrev pub LowestCrowded : Drawing → ℕ → Type 0
LowestCrowded d g = (crowded_at (book d 4) g ≡ true) × ((u : ℕ) → u < g → crowded_at (book d 4) u ≡ false)

-- what a text gives: the cell list of its drawing; or the refusal of a text that is too long, of a fault in it, of a drawing
-- with a crowded gate, or of a buffer that is shorter than the cell list
abbrev pub Listed : List ℕ → List ℕ → Result ℕ Refusal → List ℕ → Type 0
Listed text out (Ok n) out' =
    (d : Drawing) × (length text ≤ most_bytes) × (read text ≡ Ok d) × (n ≡ length (drawing_list d)) × (out' ≡ drawing_list d ++ drop n out)
Listed text out (Err (Text f)) out' = (length text ≤ most_bytes) × (read text ≡ Err f) × (out' ≡ out)
Listed text out (Err (Crowded g)) out' =
    (d : Drawing) × (length text ≤ most_bytes) × (read text ≡ Ok d) × LowestCrowded d g × (out' ≡ out)
Listed text out (Err TooShort) out' =
    ((most_bytes < length text) × (out' ≡ out)) ⊎ ((d : Drawing) × (length text ≤ most_bytes) × (read text ≡ Ok d) × (length out < length (drawing_list d)))
Listed text out (Err NodesFull) out' = ⊥
Listed text out (Err OutputsFull) out' = ⊥
Listed text out (Err BadLiteral) out' = ⊥
Listed text out (Err NotAGate) out' = ⊥
Listed text out (Err BadWidth) out' = ⊥
Listed text out (Err (BadBit i)) out' = ⊥
Listed text out (Err NoSection) out' = ⊥

-- the place that a refusal names: the byte of a fault, the crowded gate, and else the most bytes
abbrev pub place_of : Refusal → ℕ
place_of (Text f) = f.byte
place_of (Crowded g) = g
place_of NodesFull = most_bytes
place_of OutputsFull = most_bytes
place_of BadLiteral = most_bytes
place_of NotAGate = most_bytes
place_of BadWidth = most_bytes
place_of TooShort = most_bytes
place_of (BadBit i) = most_bytes
place_of NoSection = most_bytes

-- The worked figures, and that the definitions give them.
use Rattle.std.specs.Prelude.{ℕ, ◌≡◌, List, [], ◌∷◌, ◌++◌, codes}
use Rattle.drawing.specs.declared.node.Node.{Node}
use Rattle.drawing.specs.declared.node.Node.TheVariants.{Constant, Input, Gate}
use Rattle.drawing.specs.Drawing.{drawing}
use Rattle.fitter.specs.Calls.{Call, add_input, add_gate, add_output, retie_gate, set_width, load_text, map_by}
use Rattle.figures.specs.Entries.{Entry, entry, worked, drawing_is, list_of, cut_taken, cells_are, best_levels, best_pins, cover_levels, cover_pins, lists_made}

-- a gate from two literals: as a node, as the call that adds it, and as the call that ties gate v to them
abbrev pub from : ℕ → ℕ → Node
from left right = Gate (record { left = left; right = right })

-- the call that adds a gate from two literals
abbrev pub gate : ℕ → ℕ → Call
gate left right = add_gate (record { left = left; right = right })

-- the call that ties a gate anew
abbrev pub retie : ℕ → ℕ → ℕ → Call
retie v left right = retie_gate v (record { left = left; right = right })

-- the calls of figure 6
abbrev pub doubled : List Call
doubled = add_input ∷ add_input ∷ gate 2 4 ∷ gate 6 6 ∷ add_output 8 ∷ []

-- the calls of figure 7, at a width
abbrev pub choosing : ℕ → List Call
choosing k = set_width k ∷ add_input ∷ add_input ∷ add_input ∷ gate 2 4 ∷ gate 3 6 ∷ gate 9 11 ∷ add_output 13 ∷ []

-- the calls of figure 8: a width and a text
abbrev pub reading : List Call
reading = set_width 3 ∷ load_text (codes "aag 5 3 0 1 2\n2\n4\n6\n11\n8 2 4\n10 8 6\n") ∷ []

-- then a map, by a family of width 3 and a table of six entries, and gate 5 tied anew
abbrev pub retied : List Call
retied = reading ++ map_by 3 6 ∷ retie 5 9 6 ∷ []

-- then another map, and gate 4 tied anew
abbrev pub retied_below : List Call
retied_below = retied ++ map_by 3 6 ∷ retie 4 2 5 ∷ []

-- The entries, by figure. The width is 4 where no call sets it. A list is a set of cuts; here they stand in the order in which the
-- definition gives them.
abbrev pub figures : List Entry
figures =
    -- 1. no outputs
    entry (add_input ∷ gate 2 2 ∷ []) (cells_are [] ∷ lists_made 0 ∷ [])
    -- 2. a literal with itself
    ∷ entry (add_input ∷ gate 2 2 ∷ add_output 4 ∷ []) (list_of 2 ((1 ∷ []) ∷ []) ∷ cells_are ((2, 1 ∷ [], 2) ∷ []) ∷ [])
    -- 3. a literal with its inverse
    ∷ entry (add_input ∷ gate 2 3 ∷ add_output 4 ∷ []) (list_of 2 ((1 ∷ []) ∷ []) ∷ cells_are ((2, 1 ∷ [], 0) ∷ []) ∷ [])
    -- 4. the constant with itself
    ∷ entry (gate 1 1 ∷ add_output 2 ∷ []) (list_of 1 ([] ∷ []) ∷ cells_are ((1, [], 1) ∷ []) ∷ best_levels 1 1 ∷ cover_levels 1 1 ∷ [])
    -- 5. the constant with an input
    ∷ entry (add_input ∷ gate 0 2 ∷ add_output 4 ∷ []) (list_of 2 ((1 ∷ []) ∷ []) ∷ cells_are ((2, 1 ∷ [], 0) ∷ []) ∷ [])
    -- 6. a gate with itself
    ∷ entry doubled (list_of 4 ((1 ∷ 2 ∷ []) ∷ (3 ∷ []) ∷ []) ∷ cut_taken 4 (1 ∷ 2 ∷ []) ∷ cells_are ((4, 1 ∷ 2 ∷ [], 8) ∷ []) ∷ [])
    -- 7. a choice between two inputs
    ∷ entry (choosing 3) (drawing_is (drawing (Constant ∷ Input ∷ Input ∷ Input ∷ from 2 4 ∷ from 3 6 ∷ from 9 11 ∷ []) (13 ∷ [])) ∷ [])
    ∷ entry (choosing 3) (list_of 6 ((1 ∷ 2 ∷ 3 ∷ []) ∷ (1 ∷ 2 ∷ 5 ∷ []) ∷ (1 ∷ 3 ∷ 4 ∷ []) ∷ (4 ∷ 5 ∷ []) ∷ []) ∷ [])
    ∷ entry (choosing 3) (cells_are ((6, 1 ∷ 2 ∷ 3 ∷ [], 39) ∷ []) ∷ best_pins 6 (1, 3) ∷ cover_pins 6 (1, 3) ∷ [])
    ∷ entry (choosing 2) (list_of 6 ((4 ∷ 5 ∷ []) ∷ []) ∷ best_levels 6 2 ∷ cover_levels 6 2 ∷ [])
    ∷ entry (choosing 2) (cells_are ((4, 1 ∷ 2 ∷ [], 8) ∷ (5, 1 ∷ 3 ∷ [], 4) ∷ (6, 4 ∷ 5 ∷ [], 1) ∷ []) ∷ [])
    -- 8. a text; then gate 5 tied anew; then gate 4, on which gate 5 depends
    ∷ entry reading (drawing_is (drawing (Constant ∷ Input ∷ Input ∷ Input ∷ from 2 4 ∷ from 8 6 ∷ []) (11 ∷ [])) ∷ [])
    ∷ entry reading (cells_are ((5, 1 ∷ 2 ∷ 3 ∷ [], 128) ∷ []) ∷ lists_made 2 ∷ [])
    ∷ entry retied (cells_are ((5, 1 ∷ 2 ∷ 3 ∷ [], 112) ∷ []) ∷ lists_made 1 ∷ [])
    ∷ entry retied_below (cells_are ((5, 1 ∷ 2 ∷ 3 ∷ [], 208) ∷ []) ∷ lists_made 2 ∷ [])
    ∷ []

-- the definitions give what each entry says
abbrev pub EachHolds : List Entry → Type 0
EachHolds [] = Unit {0}
EachHolds (e ∷ es) = (worked e ≡ e.says) × EachHolds es

-- the definitions give every entry
abbrev pub FiguresHold : Type 0
FiguresHold = EachHolds figures

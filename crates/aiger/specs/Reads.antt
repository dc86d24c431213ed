-- What the reader owes for a text, line by line: its drawing, or its first fault.
use Rattle.std.specs.Prelude.{ℕ, suc, ◌+◌, ◌-◌, ◌*◌, ◌%◌, Bool, cond, not, ◌&&◌, List, [], ◌∷◌, ◌++◌, replicate, Some, None, Ok, Err, Option, Result, ◌==◌, nat_le, nat_lt, slice_index, slice_set}
use Rattle.drawing.specs.declared.node.Node.{Node}
use Rattle.drawing.specs.declared.node.Node.TheVariants.{Constant, Input, Gate}
use Rattle.drawing.specs.declared.refusal.Rule.{Rule}
use Rattle.drawing.specs.declared.refusal.Rule.TheVariants.{Pattern, Figures, Literal}
use Rattle.drawing.specs.declared.refusal.Fault.{Fault}
use Rattle.drawing.specs.Drawing.{Drawing, drawing, most_nodes, most_outputs, node_of, at, is_input, names}
use Rattle.aiger.specs.declared.part.Kind.{Kind}
use Rattle.aiger.specs.declared.part.Kind.TheVariants.{Inputs, Outputs, Gates}
use Rattle.aiger.specs.Text.{word}

-- The pattern of a line.

-- a byte from 0 to 9
abbrev pub is_digit : ℕ → Bool
is_digit b = nat_le 48 b && nat_lt b 58

-- what a byte is to a line: a digit, which makes this number; a space or the line's end, which close this number; or none of these
pub data Act : Type 0 where
  Digit : ℕ → Act
  Space : ℕ → Act
  Newline : ℕ → Act
  Stop : Act

-- what the byte b is to a line, behind the digits of a number, if it has begun, and with `more` numbers to come
-- after this one: a digit may follow the number v where v has one or two digits and is not 0
abbrev pub act : ℕ → Option ℕ → ℕ → Act
act more None b = cond (is_digit b) (Digit (b - 48)) Stop
act more (Some v) b =
    cond (is_digit b) (cond (nat_lt 0 v && nat_lt v 100) (Digit (10 * v + (b - 48))) Stop)
    (cond (more == 0) (cond (b == 10) (Newline v) Stop) (cond (b == 32) (Space v) Stop))

-- a line breaks its pattern at a byte; or it is whole: its numbers, where the next line begins, and the bytes from there on
pub data Scan : Type 0 where
  broken : ℕ → Scan
  whole : List ℕ → ℕ → List ℕ → Scan

-- the line from byte `pos` on: `done` are the numbers before, and `number` is the number so far, if it has begun
unfoldable pub scan : ℕ → List ℕ → Option ℕ → ℕ → List ℕ → Scan
scan more done number pos [] = broken pos
scan more done number pos (b ∷ bs) =
    elim (act more number b) [
      | Digit v ↦ scan more done (Some v) (pos + 1) bs
      | Space v ↦ scan (more - 1) (done ++ v ∷ []) None (pos + 1) bs
      | Newline v ↦ whole (done ++ v ∷ []) (pos + 1) bs
      | Stop ↦ broken pos
    ]

-- The numbers of a line.

-- the drawing so far: a node that no line has named yet stands as Constant
pub record Sheet : Type 0 where
  pub nodes : List Node
  pub outputs : List ℕ
  -- the last input and the last gate that a line named, or 0
  pub input : ℕ
  pub gate : ℕ

-- how many numbers come after the first of a line below the header
abbrev pub width : Kind → ℕ
width Inputs = 0
width Outputs = 0
width Gates = 2

-- the figures M I L O A are inside the rules
abbrev pub headed : List ℕ → Bool
headed ns =
    (slice_index ns 2 == 0)
    && (slice_index ns 0 == slice_index ns 1 + slice_index ns 4 && (nat_lt (slice_index ns 0) most_nodes && nat_le (slice_index ns 3) most_outputs))

-- the literal is even, and names a node of the drawing above the last one
abbrev pub follows : ℕ → ℕ → List Node → Bool
follows last l nodes = l % 2 == 0 && (nat_lt last (node_of l) && names nodes l)

-- the literals of a line of this part are inside the rules
abbrev pub fits : Kind → Sheet → List ℕ → Bool
fits Inputs sh ns = follows sh.input (slice_index ns 0) sh.nodes
fits Outputs sh ns = names sh.nodes (slice_index ns 0)
fits Gates sh ns =
    follows sh.gate (slice_index ns 0) sh.nodes
    && (not (is_input (at sh.nodes (node_of (slice_index ns 0))))
    && (nat_lt (node_of (slice_index ns 1)) (node_of (slice_index ns 0)) && nat_lt (node_of (slice_index ns 2)) (node_of (slice_index ns 0))))

-- the sheet with what the line says
abbrev pub add : Kind → Sheet → List ℕ → Sheet
add Inputs sh ns =
    record {
      nodes = slice_set sh.nodes (node_of (slice_index ns 0)) Input;
      outputs = sh.outputs;
      input = node_of (slice_index ns 0);
      gate = sh.gate;
    }
add Outputs sh ns =
    record { nodes = sh.nodes; outputs = sh.outputs ++ slice_index ns 0 ∷ []; input = sh.input; gate = sh.gate }
add Gates sh ns =
    record {
      nodes = slice_set sh.nodes (node_of (slice_index ns 0)) (Gate (record { left = slice_index ns 1; right = slice_index ns 2 }));
      outputs = sh.outputs;
      input = sh.input;
      gate = node_of (slice_index ns 0);
    }

-- The text.

-- what is owed for a text: its drawing, or its fault
abbrev pub Outcome : Type 0
Outcome = Result Drawing Fault

-- the fault of this rule, at this byte and line
abbrev pub fault : Rule → ℕ → ℕ → Outcome
fault rule byte line = Err (record { rule = rule; byte = byte; line = line })

-- a line's pattern comes before its numbers: where they pass the test it goes on, and else with the fault `bad`
abbrev pub after : Scan → ℕ → (List ℕ → Bool) → Outcome → (List ℕ → ℕ → List ℕ → Outcome) → Outcome
after (broken pos) ln ok bad go = fault Pattern pos ln
after (whole ns pos rest) ln ok bad go = cond (ok ns) (go ns pos rest) bad

-- the lines of these parts, from line ln on, which begins at byte `pos`; nothing follows the last
unfoldable pub read_lines : List Kind → Sheet → ℕ → ℕ → List ℕ → Outcome
read_lines [] sh ln pos [] = Ok (drawing sh.nodes sh.outputs)
read_lines [] sh ln pos (b ∷ bs) = fault Pattern pos ln
read_lines (p ∷ ps) sh ln pos bs =
    after (scan (width p) [] None pos bs) ln (fits p sh) (fault Literal pos ln)
    (λ ns next rest. read_lines ps (add p sh ns) (ln + 1) next rest)

-- I input lines, O output lines and A gate lines
abbrev pub plan : ℕ → ℕ → ℕ → List Kind
plan i o a = replicate i Inputs ++ (replicate o Outputs ++ replicate a Gates)

-- a new sheet for node 0 and M others
abbrev pub blank : ℕ → Sheet
blank m = record { nodes = replicate (suc m) Constant; outputs = []; input = 0; gate = 0 }

-- the figures of the header, and the lines that they announce
abbrev pub read_heading : Scan → Outcome
read_heading s =
    after s 0 headed (fault Figures 0 0)
    (λ ns next rest. read_lines (plan (slice_index ns 1) (slice_index ns 3) (slice_index ns 4)) (blank (slice_index ns 0)) 1 next rest)

-- the letters of the first word, and then the header's figures
unfoldable pub read_word : List ℕ → ℕ → List ℕ → Outcome
read_word [] pos bs = read_heading (scan 4 [] None pos bs)
read_word (w ∷ ws) pos [] = fault Pattern pos 0
read_word (w ∷ ws) pos (b ∷ bs) = cond (b == w) (read_word ws (pos + 1) bs) (fault Pattern pos 0)

-- THE DEFINITION: what the reader owes for these bytes
unfoldable pub read : List ℕ → Outcome
read bs = read_word word 0 bs

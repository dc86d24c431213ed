-- What a reader that stands in the middle of a text owes for the bytes to come.
use Rattle.std.specs.Prelude.{◌≡◌, ℕ, ◌+◌, ◌<◌, ◌≤◌, true, false, cond, List, [], ◌∷◌, length, drop, Some, None, Ok, Err, Option, Result, ◌==◌, slice_index}
use Rattle.aiger.specs.declared.line.Line.{Line}
use Rattle.aiger.specs.declared.draft.Draft.{Draft}
use Rattle.aiger.specs.declared.header.Header.{Header as Figures}
use Rattle.aiger.specs.declared.part.Kind.{Kind}
use Rattle.aiger.specs.declared.part.Kind.TheVariants.{Inputs, Outputs, Gates}
use Rattle.aiger.specs.declared.part.Part.{Part}
use Rattle.aiger.specs.declared.part.Part.TheVariants.{Word, Header, Lines, End}
use Rattle.aiger.specs.declared.reader.Reader.{Reader}
use Rattle.drawing.specs.Drawing.{Drawing, drawing, most_outputs}
use Rattle.drawing.specs.declared.refusal.Fault.{Fault}
use Rattle.drawing.specs.declared.refusal.Rule.TheVariants.{Pattern, Literal}
use Rattle.aiger.specs.Text.{word}
use Rattle.aiger.specs.Reads.{Scan, broken, whole, scan, Sheet, fits, add, width, Outcome, fault, after, headed, read_lines, plan, read_heading, read_word}

-- what comes of the line l with the bytes bs to come
abbrev pub scan_on : Line → List ℕ → Scan
scan_on l bs = scan l.more l.numbers.items l.number l.pos bs

-- the fault of a line whose next byte breaks the pattern: at that byte
abbrev pub broken_at : Line → Fault
broken_at l = record { rule = Pattern; byte = l.pos; line = l.row }

-- the fault of a line with a literal outside the rules: at the first byte of the line
abbrev pub misplaced_in : Line → Fault
misplaced_in l = record { rule = Literal; byte = l.start; line = l.row }

-- m is the line l behind the byte b, where byte 10 ends the row
pub record Passed (b : ℕ) (l m : Line) : Type 0 where
  -- the next row, where the byte ends this one
  pub row : m.row ≡ cond (b == 10) (l.row + 1) l.row
  -- a row begins behind that byte
  pub start : m.start ≡ cond (b == 10) (l.pos + 1) l.start
  -- one byte on
  pub pos : m.pos ≡ l.pos + 1
  -- as many numbers to come
  pub more : m.more ≡ l.more
  -- the numbers stay
  pub numbers : m.numbers ≡ l.numbers
  -- the number so far stays
  pub number : m.number ≡ l.number

-- m has the row and the first byte of the line l, and stands at the same byte
pub record Stays (l : Line) (m : Line) : Type 0 where
  pub row : m.row ≡ l.row
  pub start : m.start ≡ l.start
  pub on : m.pos ≡ l.pos

-- the line l takes the byte b and is m then: with as many numbers in all, and whatever follows is read alike
pub record Goes (l : Line) (b : ℕ) (m : Line) : Type 0 where
  pub stays : Stays l m
  pub fields : length m.numbers.items + m.more ≡ length l.numbers.items + l.more
  pub same : (bs : List ℕ) → scan_on l (b ∷ bs) ≡ scan m.more m.numbers.items m.number (l.pos + 1) bs

-- byte 10 ends the line l, which is m then: ns are all its numbers, whatever follows, and m has none
pub record Closes (l : Line) (ns : List ℕ) (m : Line) : Type 0 where
  pub stays : Stays l m
  pub fields : length ns ≡ length l.numbers.items + l.more + 1
  pub same : (bs : List ℕ) → scan_on l (10 ∷ bs) ≡ whole ns (l.pos + 1) bs
  pub empty : (m.numbers.items ≡ []) × (m.number ≡ None)

-- the byte b breaks the pattern of the line l: f is the fault at that byte, and the line is broken there whatever follows
pub record Breaks (l : Line) (b : ℕ) (f : Fault) : Type 0 where
  pub is : f ≡ broken_at l
  pub same : (bs : List ℕ) → scan_on l (b ∷ bs) ≡ broken l.pos

-- the header h announces what the figures say, which are inside the rules
pub record Announces (figures : List ℕ) (h : Figures) : Type 0 where
  -- the figures are inside the rules
  pub inside : headed figures ≡ true
  -- M, the last node
  pub last : h.last ≡ slice_index figures 0
  -- I, how many inputs
  pub inputs : h.inputs ≡ slice_index figures 1
  -- O, how many outputs
  pub outputs : h.outputs ≡ slice_index figures 3
  -- A, how many gates
  pub gates : h.gates ≡ slice_index figures 4

-- the sheet that a draft stands for: its nodes and outputs, and the last input and gate
abbrev pub drafted : Draft → Sheet
drafted t = record { nodes = t.nodes.items; outputs = t.outputs.items; input = t.input; gate = t.gate }

-- the drawing of a draft that is whole
abbrev pub drawn : Draft → Drawing
drawn t = drawing t.nodes.items t.outputs.items

-- the numbers ns of a line of the kind k are put on the sheet sh, which is `to` then, or they are outside the rules
abbrev pub Puts : Kind → Sheet → List ℕ → Option (Unit {0}) → Sheet → Type 0
Puts k sh ns (Some _) to = (fits k sh ns ≡ true) × (to ≡ add k sh ns)
Puts k sh ns None to = fits k sh ns ≡ false

-- what the line of the kind k owes once its bytes are scanned
abbrev pub rest : Reader → Kind → Scan → Outcome
rest r k s =
    after s r.line.row (fits k (drafted r.draft)) (fault Literal r.line.start r.line.row)
    (λ ns next bs. read_lines (plan r.inputs r.outputs r.gates) (add k (drafted r.draft) ns) (r.line.row + 1) next bs)

-- what the reader owes for the bytes to come, in each part
abbrev pub go_on_in : Part → Reader → List ℕ → Outcome
go_on_in (Word n) r bs = read_word (drop n word) r.line.pos bs
go_on_in Header r bs = read_heading (scan_on r.line bs)
go_on_in (Lines k) r bs = rest r k (scan_on r.line bs)
go_on_in End r bs = read_lines [] (drafted r.draft) r.line.row r.line.pos bs

-- what the reader owes for the bytes to come
abbrev pub go_on : Reader → List ℕ → Outcome
go_on r bs = go_on_in r.part r bs

-- how many outputs a line of this kind adds
abbrev pub due : Kind → ℕ
due Inputs = 0
due Outputs = 1
due Gates = 0

-- n letters of the first word are read, in line 0, and no number has begun
pub record First (n : ℕ) (l : Line) : Type 0 where
  -- the word has four letters
  pub letters : n < 4
  -- it stands in line 0
  pub row : l.row ≡ 0
  -- four numbers come after the first
  pub more : l.more ≡ 4
  -- none is read
  pub numbers : l.numbers.items ≡ []
  -- and none has begun
  pub number : l.number ≡ None

-- the line l is the header, of five figures in line 0
pub record Heading (l : Line) : Type 0 where
  pub row : l.row ≡ 0
  pub fields : length l.numbers.items + l.more ≡ 4

-- r is in a line of the kind k: it has the numbers of such a line, and the outputs drawn, this one and those to come are not
-- too many
pub record Row (k : Kind) (r : Reader) : Type 0 where
  pub fields : length r.line.numbers.items + r.line.more ≡ width k
  pub outputs : length r.draft.outputs.items + (r.outputs + due k) ≤ most_outputs

-- what holds of a reader in each part
abbrev pub SoundIn : Part → Reader → Type 0
SoundIn (Word n) r = First n r.line
SoundIn Header r = Heading r.line
SoundIn (Lines k) r = Row k r
SoundIn End r = Unit {0}

-- what holds of a reader between two bytes
abbrev pub Sound : Reader → Type 0
Sound r = SoundIn r.part r

-- r with the line l
abbrev pub with_line : Reader → Line → Reader
with_line r l = record { part = r.part; line = l; inputs = r.inputs; outputs = r.outputs; gates = r.gates; draft = r.draft }

-- s is sound, and owes for the bytes behind b what r owes for them with b
pub record Reaches (r : Reader) (b : ℕ) (s : Reader) : Type 0 where
  pub sound : Sound s
  pub same : (bs : List ℕ) → go_on r (b ∷ bs) ≡ go_on s bs

-- the reader r took the byte b, is s at that byte, and reaches behind it what it owes
pub record Stepped (r : Reader) (b : ℕ) (s : Reader) : Type 0 where
  pub on : s.line.pos ≡ r.line.pos
  pub reaches : (l : Line) → Passed b s.line l → Reaches r b (with_line s l)

-- the reader r takes the byte b, or refuses it whatever follows
abbrev pub Steps : Reader → ℕ → Result (Unit {0}) Fault → Reader → Type 0
Steps r b (Ok _) s = Stepped r b s
Steps r b (Err f) s = (bs : List ℕ) → go_on r (b ∷ bs) ≡ Err f

-- s is sound, and owes the lines that are left behind the line of r
pub record Owes (r s : Reader) : Type 0 where
  pub sound : Sound s
  pub same : (bs : List ℕ) → go_on s bs ≡ read_lines (plan r.inputs r.outputs r.gates) (drafted r.draft) (r.line.row + 1) (r.line.pos + 1) bs

-- s stands where r does, at the byte 10 that ends a line: behind it the lines that are left begin
pub record Begins (r s : Reader) : Type 0 where
  pub on : s.line.pos ≡ r.line.pos
  pub owes : (l : Line) → Passed 10 s.line l → Owes r (with_line s l)

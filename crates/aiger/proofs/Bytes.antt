-- What the reader does at a byte, in each part.
use Rattle.std.proofs.Common.{◌≡◌, ℕ, zero, suc, ◌+◌, ◌<◌, ◌≤◌, true, cond, eqb, List, [], ◌∷◌, length, get_or, drop, None, Ok, Err, sym, refl, ap, ◌∙◌, arith}
use Rattle.std.proofs.lemmas.List.{drop_more}
use Rattle.std.proofs.lemmas.Bool.{cond-true, cond-false, eq-eqb, ne_eqb}
use Rattle.drawing.specs.declared.refusal.Fault.{Fault}
use Rattle.drawing.specs.declared.refusal.Rule.TheVariants.{Pattern, Literal}
use Rattle.drawing.specs.Drawing.{drawing}
use Rattle.aiger.specs.declared.line.Line.{Line}
use Rattle.aiger.specs.declared.draft.Draft.{Draft}
use Rattle.aiger.specs.declared.header.Header.{Header as Announced}
use Rattle.aiger.specs.declared.part.Kind.{Kind}
use Rattle.aiger.specs.declared.part.Part.{Part}
use Rattle.aiger.specs.declared.part.Part.TheVariants.{Word, Header, Lines, End}
use Rattle.aiger.specs.declared.reader.Reader.{Reader}
use Rattle.aiger.specs.Text.{word}
use Rattle.aiger.specs.Reads.{scan, fits, add, width, after, fault, blank, read_lines, read_heading, read_word, plan}
use Rattle.aiger.specs.States.{Announces, Begins, broken_at, Closes, drafted, First, go_on, go_on_in, Passed, rest, scan_on, Sound, SoundIn, Stepped}

abbrev pub with_part : Reader → Part → Reader
with_part r p = record { part = p; line = r.line; inputs = r.inputs; outputs = r.outputs; gates = r.gates; draft = r.draft }

-- The end of a line.

module _ (r : Reader) (ns : List ℕ) (m : Line) (g : Closes r.line ns m) where
  pub line_passes : (k : Kind) (d : Draft) (s : Reader) → r.part ≡ Lines k → fits k (drafted r.draft) ns ≡ true → drafted d ≡ add k (drafted r.draft) ns → Begins (record { part = r.part; line = m; inputs = r.inputs; outputs = r.outputs; gates = r.gates; draft = d }) s → Stepped r 10 s
  line_passes k d s p good put b =
      record {
        on = b.on ∙ g.stays.on;
        reaches = λ l q.
            let o = b.owes l q in
            record {
              sound = o.sound;
              same = λ bs.
                  ap (λ q. go_on_in q r (10 ∷ bs)) p ∙ ap (rest r k) (g.same bs) ∙ cond-true _ _ _ good
                  ∙ (λ i. read_lines (plan r.inputs r.outputs r.gates) (sym put i) (sym g.stays.row i + 1) (sym g.stays.on i + 1) bs)
                  ∙ sym (o.same bs);
            };
      }

  pub heading_passes : (h : Announced) (d : Draft) (s : Reader) → r.part ≡ Header → r.line.row ≡ 0 → Announces ns h → drafted d ≡ blank h.last → Begins (record { part = r.part; line = m; inputs = h.inputs; outputs = h.outputs; gates = h.gates; draft = d }) s → Stepped r 10 s
  heading_passes h d s p z a new b =
      record {
        on = b.on ∙ g.stays.on;
        reaches = λ l q.
            let o = b.owes l q in
            record {
              sound = o.sound;
              same = λ bs.
                  ap (λ q. go_on_in q r (10 ∷ bs)) p ∙ ap read_heading (g.same bs) ∙ cond-true _ _ _ a.inside
                  ∙ (λ i. read_lines (plan (sym a.inputs i) (sym a.outputs i) (sym a.gates i)) (sym (new ∙ ap blank a.last) i) (sym (g.stays.row ∙ z) i + 1) (sym g.stays.on i + 1) bs)
                  ∙ sym (o.same bs);
            };
      }

-- The first word.

-- no letter of it ends a line
no_end : (k : ℕ) → k < 4 → get_or word k 0 ≡ 10 → ⊥
no_end zero h q = omega arith
no_end (suc zero) h q = omega arith
no_end (suc (suc zero)) h q = omega arith
no_end (suc (suc (suc k))) h q = let z : k ≡ 0 = omega arith in omega (arith, ap (λ j. get_or word (suc (suc (suc j))) 0) z)

word_read : (pos : ℕ) (bs : List ℕ) → read_word [] pos bs ≡ read_heading (scan 4 [] None pos bs)
unfolding read_word
word_read pos bs = refl

module _ (r : Reader) (n : ℕ) (p : r.part ≡ Word n) (first : First n r.line) (b : ℕ) where
  word_on : (bs : List ℕ) → go_on r (b ∷ bs) ≡ cond (eqb b (get_or word n 0)) (read_word (drop (n + 1) word) (r.line.pos + 1) bs) (fault Pattern r.line.pos 0)
  unfolding read_word
  word_on bs =
      ap (λ q. go_on_in q r (b ∷ bs)) p ∙ ap (λ ws. read_word ws r.line.pos (b ∷ bs)) (drop_more word n 0 first.letters)

  pub letter_breaks : (f : Fault) → f ≡ broken_at r.line → (b ≡ get_or word n 0 → ⊥) → (bs : List ℕ) → go_on r (b ∷ bs) ≡ Err f
  letter_breaks f is ne bs =
      word_on bs ∙ cond-false _ _ _ (ne_eqb b (get_or word n 0) ne) ∙ ap (fault Pattern r.line.pos) (sym first.row) ∙ ap Err (sym is)

  module _ (e : b ≡ get_or word n 0) where
    letter_on : (bs : List ℕ) → go_on r (b ∷ bs) ≡ read_word (drop (n + 1) word) (r.line.pos + 1) bs
    letter_on bs = word_on bs ∙ cond-true _ _ _ (eq-eqb b (get_or word n 0) e)

    module _ (l : Line) (q : Passed b r.line l) where
      row_stays : l.row ≡ 0
      row_stays =
          q.row ∙ cond-false _ _ _ (ne_eqb b 10 (λ x. no_end n first.letters (sym e ∙ x))) ∙ first.row

    pub letter_steps : n < 3 → Stepped r b (with_part r (Word (n + 1)))
    letter_steps lt =
        record {
          on = refl;
          reaches = λ l q. record {
            sound = record {
              letters = omega arith;
              row = row_stays l q;
              more = q.more ∙ first.more;
              numbers = ap (λ v. v.items) q.numbers ∙ first.numbers;
              number = q.number ∙ first.number;
            };
            same = λ bs. letter_on bs ∙ ap (λ k. read_word (drop (n + 1) word) k bs) (sym q.pos);
          };
        }

    pub last_letter : 3 ≤ n → Stepped r b (with_part r Header)
    last_letter le =
        let lt : n < 4 = first.letters in
        let four : n + 1 ≡ 4 = omega arith in
        record {
          on = refl;
          reaches = λ l q.
              let none = ap (λ v. v.items) q.numbers ∙ first.numbers in
              record {
                sound = record { row = row_stays l q; fields = omega (arith, ap length none, q.more, first.more) };
                same = λ bs.
                    letter_on bs ∙ (λ i. read_word (drop (four i) word) (sym q.pos i) bs) ∙ word_read l.pos bs
                    ∙ (λ i. read_heading (scan (sym (q.more ∙ first.more) i) (sym none i) (sym (q.number ∙ first.number) i) l.pos bs));
              };
        }

-- Behind the last line, and the end of the text.

pub past_end : (r : Reader) (b : ℕ) (f : Fault) → r.part ≡ End → f ≡ broken_at r.line → (bs : List ℕ) → go_on r (b ∷ bs) ≡ Err f
unfolding read_lines
past_end r b f e is bs = ap (λ q. go_on_in q r (b ∷ bs)) e ∙ ap Err (sym is)

word_ends : (k pos : ℕ) → k < 4 → read_word (drop k word) pos [] ≡ fault Pattern pos 0
unfolding read_word
word_ends k pos lt = ap (λ ws. read_word ws pos []) (drop_more word k 0 lt)

ends_in : (r : Reader) (p : Part) → SoundIn p r → (p ≡ End → ⊥) → go_on_in p r [] ≡ fault Pattern r.line.pos r.line.row
unfolding scan
ends_in r (Word n) f ne = word_ends n r.line.pos f.letters ∙ ap (fault Pattern r.line.pos) (sym f.row)
ends_in r Header f ne = ap (fault Pattern r.line.pos) (sym f.row)
ends_in r (Lines k) f ne = refl
ends_in r End f ne = absurd (ne refl)

pub stops_early : (r : Reader) (f : Fault) → Sound r → (r.part ≡ End → ⊥) → f ≡ broken_at r.line → go_on r [] ≡ Err f
stops_early r f s ne is = ends_in r r.part s ne ∙ ap Err (sym is)

pub stops_well : (r : Reader) → r.part ≡ End → go_on r [] ≡ Ok (drawing (drafted r.draft).nodes (drafted r.draft).outputs)
unfolding read_lines
stops_well r e = ap (λ q. go_on_in q r []) e

-- The next line.

-- the reader r has read a line, and nothing of the next
module _ (r : Reader) (empty : (r.line.numbers.items ≡ []) × (r.line.number ≡ None)) (l : Line) (on : l.pos ≡ r.line.pos + 1) (numbers : l.numbers ≡ r.line.numbers) (number : l.number ≡ r.line.number) (row : l.row ≡ r.line.row + 1) (start : l.start ≡ r.line.pos + 1) where
  next_scan : (w : ℕ) → l.more ≡ w → (bs : List ℕ) → scan_on l bs ≡ scan w [] None (r.line.pos + 1) bs
  next_scan w e bs = λ i. scan (e i) ((ap (λ v. v.items) numbers ∙ empty.0) i) ((number ∙ empty.1) i) (on i) bs

  -- a line of the kind k comes next, and others behind it
  pub next_line : (k : Kind) (i o g : ℕ) → l.more ≡ width k → plan r.inputs r.outputs r.gates ≡ k ∷ plan i o g → (bs : List ℕ)
      → rest (record { part = Lines k; line = l; inputs = i; outputs = o; gates = g; draft = r.draft }) k (scan_on l bs) ≡ read_lines (plan r.inputs r.outputs r.gates) (drafted r.draft) (r.line.row + 1) (r.line.pos + 1) bs
  unfolding read_lines
  next_line k i o g e p bs =
      (λ j. after (next_scan (width k) e bs j) (row j) (fits k (drafted r.draft)) (fault Literal (start j) (row j)) (λ ns next rest. read_lines (plan i o g) (add k (drafted r.draft) ns) (row j + 1) next rest))
      ∙ ap (λ ps. read_lines ps (drafted r.draft) (r.line.row + 1) (r.line.pos + 1) bs) (sym p)

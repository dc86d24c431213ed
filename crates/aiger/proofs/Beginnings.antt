-- Beginnings of texts: a byte that breaks the pattern breaks it whatever follows, and where a text ends early, so does
-- each beginning of it.
use Rattle.std.proofs.Common.{◌≡◌, ℕ, ◌+◌, ◌-◌, ◌<◌, Bool, true, false, eqb, ◌⊎◌, List, [], ◌∷◌, ◌++◌, length, take, drop, Some, None, Err, Option, sym, refl, ap, ◌∙◌, inl, inr, ⊎_elim, append_assoc, arith}
use Rattle.std.proofs.lemmas.List.{length-append, take_at, take-append-drop, length-take-le}
use Rattle.std.proofs.lemmas.Bool.{cases_Bool, cond-true, cond-false}
use Rattle.drawing.specs.declared.refusal.Fault.{Fault}
use Rattle.drawing.specs.declared.refusal.Rule.TheVariants.{Pattern, Figures, Literal}
use Rattle.aiger.specs.declared.part.Kind.{Kind}
use Rattle.aiger.specs.Text.{word}
use Rattle.aiger.specs.Reads.{Act, Digit, Space, Newline, Stop, act, Scan, broken, whole, scan, Sheet, width, fits, add, headed, Outcome, fault, after, read_lines, read_word, read}
use Rattle.aiger.specs.Laws.{BreaksForGood, EndsEarly}
use Rattle.aiger.proofs.Lines.{turn, scan_turn}
use Rattle.aiger.proofs.Faults.{ok_err, same_fault}

-- the numbers of a line are not refused as its pattern
not_pattern : (f g : Fault) → ◌≡◌ {A = Outcome} (Err g) (Err f) → f.rule ≡ Pattern → (g.rule ≡ Pattern → ⊥) → ⊥
not_pattern f g e is ne = ne (ap (λ x. x.rule) (same_fault g f e) ∙ is)

-- A byte inside the text.

-- the scan s stops at a byte of bs, whatever follows that byte
record Halts (s : List ℕ → Scan) (bs : List ℕ) (pos p : ℕ) : Type 0 where
  pre : List ℕ
  byte : ℕ
  rest : List ℕ
  split : bs ≡ pre ++ byte ∷ rest
  place : p ≡ pos + length pre
  same : (u : List ℕ) → s (pre ++ byte ∷ u) ≡ broken p

-- the scan s passes a line at the front of bs, whatever follows the line
record Passes (s : List ℕ → Scan) (bs : List ℕ) (pos : ℕ) (ns : List ℕ) (next : ℕ) (rest : List ℕ) : Type 0 where
  pre : List ℕ
  split : bs ≡ pre ++ rest
  place : next ≡ pos + length pre
  same : (u : List ℕ) → s (pre ++ u) ≡ whole ns next u

abbrev Settled : (List ℕ → Scan) → List ℕ → ℕ → Scan → Type 0
Settled s bs pos (broken p) = (p ≡ pos + length bs) ⊎ Halts s bs pos p
Settled s bs pos (whole ns next rest) = Passes s bs pos ns next rest

settled_more : (s s' : List ℕ → Scan) (b : ℕ) (bs : List ℕ) (pos : ℕ) (x : Scan) → ((u : List ℕ) → s (b ∷ u) ≡ s' u) → Settled s' bs (pos + 1) x → Settled s (b ∷ bs) pos x
settled_more s s' b bs pos (broken p) g (inl e) = inl (omega arith)
settled_more s s' b bs pos (broken p) g (inr h) =
    inr (record {
      pre = b ∷ h.pre;
      byte = h.byte;
      rest = h.rest;
      split = ap (λ l. b ∷ l) h.split;
      place = omega (arith, h.place);
      same = λ u. g (h.pre ++ h.byte ∷ u) ∙ h.same u;
    })
settled_more s s' b bs pos (whole ns next rest) g h =
    record {
      pre = b ∷ h.pre;
      split = ap (λ l. b ∷ l) h.split;
      place = omega (arith, h.place);
      same = λ u. g (h.pre ++ u) ∙ h.same u;
    }

module _ (more : ℕ) (done : List ℕ) (number : Option ℕ) (pos b : ℕ) where
  -- the byte b is a, whatever follows
  turns : (a : Act) → a ≡ act more number b → (u : List ℕ) → scan more done number pos (b ∷ u) ≡ turn more done pos u a
  turns a e u = scan_turn more done number pos b u ∙ ap (turn more done pos u) (sym e)

  settled_turn : (bs : List ℕ) (a : Act) → a ≡ act more number b
      → ((more' : ℕ) (done' : List ℕ) (number' : Option ℕ) → Settled (scan more' done' number' (pos + 1)) bs (pos + 1) (scan more' done' number' (pos + 1) bs))
      → Settled (scan more done number pos) (b ∷ bs) pos (turn more done pos bs a)
  settled_turn bs (Digit v) e ih = settled_more _ (scan more done (Some v) (pos + 1)) b bs pos _ (turns (Digit v) e) (ih more done (Some v))
  settled_turn bs (Space v) e ih =
      settled_more _ (scan (more - 1) (done ++ v ∷ []) None (pos + 1)) b bs pos _ (turns (Space v) e) (ih (more - 1) (done ++ v ∷ []) None)
  settled_turn bs (Newline v) e ih = record { pre = b ∷ []; split = refl; place = refl; same = turns (Newline v) e }
  settled_turn bs Stop e ih = inr (record { pre = []; byte = b; rest = bs; split = refl; place = omega arith; same = turns Stop e })

scan_settled : (more : ℕ) (done : List ℕ) (number : Option ℕ) (pos : ℕ) (bs : List ℕ) → Settled (scan more done number pos) bs pos (scan more done number pos bs)
unfolding scan
scan_settled more done number pos [] = inl (omega arith)
scan_settled more done number pos (b ∷ bs) =
    settled_turn more done number pos b bs (act more number b) refl (λ more' done' number'. scan_settled more' done' number' (pos + 1) bs)

-- reading by r stops at a byte of bs with the fault f, whatever follows that byte
record Fails (r : List ℕ → Outcome) (bs : List ℕ) (pos : ℕ) (f : Fault) : Type 0 where
  pre : List ℕ
  byte : ℕ
  rest : List ℕ
  split : bs ≡ pre ++ byte ∷ rest
  place : f.byte ≡ pos + length pre
  same : (u : List ℕ) → r (pre ++ byte ∷ u) ≡ Err f

module _ (s : List ℕ → Scan) (pos ln : ℕ) (ok : List ℕ → Bool) (g f : Fault) (go : List ℕ → ℕ → List ℕ → Outcome) (is : f.rule ≡ Pattern) (other : g.rule ≡ Pattern → ⊥) where
  abbrev reads : List ℕ → Outcome
  reads bs = after (s bs) ln ok (Err g) go

  line_halts : (x : Scan) (bs : List ℕ) → Settled s bs pos x → after x ln ok (Err g) go ≡ Err f → f.byte < pos + length bs
      → ((ns : List ℕ) (next : ℕ) (rest : List ℕ) → go ns next rest ≡ Err f → f.byte < next + length rest → Fails (go ns next) rest next f)
      → Fails reads bs pos f
  line_halts (broken p) bs (inl h) e lt ih = let q : p ≡ f.byte = ap (λ x. x.byte) (same_fault _ f e) in absurd (omega arith)
  line_halts (broken p) bs (inr h) e lt ih =
      let q : p ≡ f.byte = ap (λ x. x.byte) (same_fault _ f e) in
      record {
        pre = h.pre;
        byte = h.byte;
        rest = h.rest;
        split = h.split;
        place = sym q ∙ h.place;
        same = λ u. ap (λ x. after x ln ok (Err g) go) (h.same u) ∙ e;
      }
  line_halts (whole ns next rest) bs h e lt ih =
      ⊎_elim
      (λ (t : ok ns ≡ true).
      let r = ih ns next rest (sym (cond-true _ _ _ t) ∙ e) (omega (arith, h.place, ap length h.split, length-append h.pre rest)) in
      record {
        pre = h.pre ++ r.pre;
        byte = r.byte;
        rest = r.rest;
        split = h.split ∙ ap (λ l. h.pre ++ l) r.split ∙ sym (append_assoc h.pre r.pre (r.byte ∷ r.rest));
        place = omega (arith, r.place, h.place, length-append h.pre r.pre);
        same = λ u.
            ap reads (append_assoc h.pre r.pre (r.byte ∷ u)) ∙ ap (λ x. after x ln ok (Err g) go) (h.same (r.pre ++ r.byte ∷ u))
            ∙ cond-true _ _ _ t ∙ r.same u;
      })
      (λ (t : ok ns ≡ false). absurd (not_pattern f g (sym (cond-false _ _ _ t) ∙ e) is other))
      (cases_Bool (ok ns))

lines_halt : (ps : List Kind) (sh : Sheet) (ln pos : ℕ) (bs : List ℕ) (f : Fault) → f.rule ≡ Pattern → read_lines ps sh ln pos bs ≡ Err f → f.byte < pos + length bs → Fails (read_lines ps sh ln pos) bs pos f
unfolding read_lines
lines_halt [] sh ln pos [] f is e lt = ok_err e
lines_halt [] sh ln pos (b ∷ bs) f is e lt =
    let q : pos ≡ f.byte = ap (λ x. x.byte) (same_fault _ f e) in
    record { pre = []; byte = b; rest = bs; split = refl; place = omega arith; same = λ u. e }
lines_halt (p ∷ ps) sh ln pos bs f is e lt =
    line_halts (scan (width p) [] None pos) pos ln (fits p sh) _ f _ is (λ (z : Literal ≡ Pattern). let w : ◌≡◌ {A = ℕ} 0 1 = cc in omega arith)
    (scan (width p) [] None pos bs) bs (scan_settled (width p) [] None pos bs) e lt
    (λ ns next rest h k. lines_halt ps (add p sh ns) (ln + 1) next rest f is h k)

word_halts : (ws : List ℕ) (pos : ℕ) (bs : List ℕ) (f : Fault) → f.rule ≡ Pattern → read_word ws pos bs ≡ Err f → f.byte < pos + length bs → Fails (read_word ws pos) bs pos f
unfolding read_word
word_halts [] pos bs f is e lt =
    line_halts (scan 4 [] None pos) pos 0 headed _ f _ is (λ (z : Figures ≡ Pattern). let w : ◌≡◌ {A = ℕ} 0 1 = cc in omega arith)
    (scan 4 [] None pos bs) bs (scan_settled 4 [] None pos bs) e lt
    (λ ns next rest h k. lines_halt _ _ 1 next rest f is h k)
word_halts (w ∷ ws) pos [] f is e lt = let q : pos ≡ f.byte = ap (λ x. x.byte) (same_fault _ f e) in absurd (omega arith)
word_halts (w ∷ ws) pos (b ∷ bs) f is e lt =
    ⊎_elim
    (λ (t : eqb b w ≡ true).
    let r = word_halts ws (pos + 1) bs f is (sym (cond-true _ _ _ t) ∙ e) (omega arith) in
    record {
      pre = b ∷ r.pre;
      byte = r.byte;
      rest = r.rest;
      split = ap (λ l. b ∷ l) r.split;
      place = omega (arith, r.place);
      same = λ u. cond-true _ _ _ t ∙ r.same u;
    })
    (λ (t : eqb b w ≡ false).
    let h = sym (cond-false _ _ _ t) ∙ e in
    let q : pos ≡ f.byte = ap (λ x. x.byte) (same_fault _ f h) in
    record { pre = []; byte = b; rest = bs; split = refl; place = omega arith; same = λ u. cond-false _ _ _ t ∙ h })
    (cases_Bool (eqb b w))

pub breaks_for_good : BreaksForGood
unfolding read
breaks_for_good t u f e is lt =
    let r = word_halts word 0 t f is e (omega arith) in
    let front = r.pre ++ r.byte ∷ [] in
    let size : length front ≡ f.byte + 1 = omega (arith, r.place, length-append r.pre (r.byte ∷ [])) in
    let cut : take (f.byte + 1) t ≡ front = ap (take (f.byte + 1)) (r.split ∙ sym (append_assoc r.pre (r.byte ∷ []) r.rest)) ∙ take_at front r.rest (f.byte + 1) size in
    ap (λ l. read (l ++ u)) cut ∙ ap read (append_assoc r.pre (r.byte ∷ []) u) ∙ r.same u

-- The end of the text.

-- what the scan s does at pre, where it does this at pre ++ suf: it ends early, or passes the same line
abbrev Front : (List ℕ → Scan) → ℕ → List ℕ → List ℕ → Scan → Type 0
Front s pos pre suf (broken p) = p ≡ pos + length (pre ++ suf) → s pre ≡ broken (pos + length pre)
Front s pos pre suf (whole ns next rest) =
    (s pre ≡ broken (pos + length pre)) ⊎ ((mid : List ℕ) × (rest ≡ mid ++ suf) × (next + length mid ≡ pos + length pre) × (s pre ≡ whole ns next mid))

front_none : (s : List ℕ → Scan) (pos : ℕ) (suf : List ℕ) (x : Scan) → s [] ≡ broken pos → Front s pos [] suf x
front_none s pos suf (broken p) e = λ _. e ∙ ap broken (omega arith)
front_none s pos suf (whole ns next rest) e = inl (e ∙ ap broken (omega arith))

front_more : (s s' : List ℕ → Scan) (pos b : ℕ) (pre suf : List ℕ) (x : Scan) → ((u : List ℕ) → s (b ∷ u) ≡ s' u) → Front s' (pos + 1) pre suf x → Front s pos (b ∷ pre) suf x
front_more s s' pos b pre suf (broken p) g h = λ e. g pre ∙ h (omega arith) ∙ ap broken (omega arith)
front_more s s' pos b pre suf (whole ns next rest) g h =
    ⊎_elim (λ e. inl (g pre ∙ e ∙ ap broken (omega arith))) (λ m. inr (m.0, m.1, omega (arith, m.2), g pre ∙ m.3)) h

front_turn : (more : ℕ) (done : List ℕ) (number : Option ℕ) (pos b : ℕ) (pre suf : List ℕ) (a : Act) → a ≡ act more number b
    → ((more' : ℕ) (done' : List ℕ) (number' : Option ℕ) → Front (scan more' done' number' (pos + 1)) (pos + 1) pre suf (scan more' done' number' (pos + 1) (pre ++ suf)))
    → Front (scan more done number pos) pos (b ∷ pre) suf (turn more done pos (pre ++ suf) a)
front_turn more done number pos b pre suf (Digit v) e ih =
    front_more (scan more done number pos) (scan more done (Some v) (pos + 1)) pos b pre suf _ (turns more done number pos b (Digit v) e) (ih more done (Some v))
front_turn more done number pos b pre suf (Space v) e ih =
    front_more (scan more done number pos) (scan (more - 1) (done ++ v ∷ []) None (pos + 1)) pos b pre suf _ (turns more done number pos b (Space v) e) (ih (more - 1) (done ++ v ∷ []) None)
front_turn more done number pos b pre suf (Newline v) e ih =
    inr (pre, refl, omega arith, turns more done number pos b (Newline v) e pre)
front_turn more done number pos b pre suf Stop e ih = λ (h : pos ≡ pos + length (b ∷ (pre ++ suf))). absurd (omega arith)

scan_front : (more : ℕ) (done : List ℕ) (number : Option ℕ) (pos : ℕ) (pre suf : List ℕ) → Front (scan more done number pos) pos pre suf (scan more done number pos (pre ++ suf))
unfolding scan
scan_front more done number pos [] suf = front_none (scan more done number pos) pos suf (scan more done number pos suf) refl
scan_front more done number pos (b ∷ pre) suf =
    front_turn more done number pos b pre suf (act more number b) refl (λ more' done' number'. scan_front more' done' number' (pos + 1) pre suf)

-- reading by r ends early at these bytes
abbrev Early : (List ℕ → Outcome) → ℕ → List ℕ → Type 0
Early r pos pre = (l : ℕ) × (r pre ≡ fault Pattern (pos + length pre) l)

module _ (s : List ℕ → Scan) (pos ln : ℕ) (ok : List ℕ → Bool) (g f : Fault) (go : List ℕ → ℕ → List ℕ → Outcome) (is : f.rule ≡ Pattern) (other : g.rule ≡ Pattern → ⊥) (pre suf : List ℕ) (end : f.byte ≡ pos + length (pre ++ suf)) where
  line_early : (x : Scan) → Front s pos pre suf x → after x ln ok (Err g) go ≡ Err f
      → ((ns : List ℕ) (next : ℕ) (mid : List ℕ) → go ns next (mid ++ suf) ≡ Err f → f.byte ≡ next + length (mid ++ suf) → Early (go ns next) next mid)
      → Early (λ bs. after (s bs) ln ok (Err g) go) pos pre
  line_early (broken p) h e ih =
      let q : p ≡ f.byte = ap (λ x. x.byte) (same_fault _ f e) in
      (ln, ap (λ x. after x ln ok (Err g) go) (h (q ∙ end)))
  line_early (whole ns next rest) (inl h) e ih = (ln, ap (λ x. after x ln ok (Err g) go) h)
  line_early (whole ns next rest) (inr h) e ih =
      ⊎_elim
      (λ (t : ok ns ≡ true).
      let r = ih ns next h.0 (ap (go ns next) (sym h.1) ∙ sym (cond-true _ _ _ t) ∙ e) (omega (arith, h.2, length-append h.0 suf, length-append pre suf)) in
      (r.0, ap (λ x. after x ln ok (Err g) go) h.3 ∙ cond-true _ _ _ t ∙ r.1 ∙ ap (λ k. fault Pattern k r.0) h.2))
      (λ (t : ok ns ≡ false). absurd (not_pattern f g (sym (cond-false _ _ _ t) ∙ e) is other))
      (cases_Bool (ok ns))

lines_early : (ps : List Kind) (sh : Sheet) (ln pos : ℕ) (pre suf : List ℕ) (f : Fault) → f.rule ≡ Pattern → read_lines ps sh ln pos (pre ++ suf) ≡ Err f → f.byte ≡ pos + length (pre ++ suf) → Early (read_lines ps sh ln pos) pos pre
unfolding read_lines
lines_early [] sh ln pos [] [] f is e end = ok_err e
lines_early [] sh ln pos [] (c ∷ suf) f is e end = let q : pos ≡ f.byte = ap (λ x. x.byte) (same_fault _ f e) in absurd (omega arith)
lines_early [] sh ln pos (b ∷ pre) suf f is e end = let q : pos ≡ f.byte = ap (λ x. x.byte) (same_fault _ f e) in absurd (omega arith)
lines_early (p ∷ ps) sh ln pos pre suf f is e end =
    line_early (scan (width p) [] None pos) pos ln (fits p sh) _ f _ is (λ (z : Literal ≡ Pattern). let w : ◌≡◌ {A = ℕ} 0 1 = cc in omega arith) pre suf end
    (scan (width p) [] None pos (pre ++ suf)) (scan_front (width p) [] None pos pre suf) e
    (λ ns next mid h k. lines_early ps (add p sh ns) (ln + 1) next mid suf f is h k)

word_early : (ws : List ℕ) (pos : ℕ) (pre suf : List ℕ) (f : Fault) → f.rule ≡ Pattern → read_word ws pos (pre ++ suf) ≡ Err f → f.byte ≡ pos + length (pre ++ suf) → Early (read_word ws pos) pos pre
unfolding read_word
word_early [] pos pre suf f is e end =
    line_early (scan 4 [] None pos) pos 0 headed _ f _ is (λ (z : Figures ≡ Pattern). let w : ◌≡◌ {A = ℕ} 0 1 = cc in omega arith) pre suf end
    (scan 4 [] None pos (pre ++ suf)) (scan_front 4 [] None pos pre suf) e
    (λ ns next mid h k. lines_early _ _ 1 next mid suf f is h k)
word_early (w ∷ ws) pos [] suf f is e end = (0, ap (λ k. fault Pattern k 0) (omega arith))
word_early (w ∷ ws) pos (b ∷ pre) suf f is e end =
    ⊎_elim
    (λ (t : eqb b w ≡ true).
    let r = word_early ws (pos + 1) pre suf f is (sym (cond-true _ _ _ t) ∙ e) (omega arith) in
    (r.0, cond-true _ _ _ t ∙ r.1 ∙ ap (λ k. fault Pattern k r.0) (omega arith)))
    (λ (t : eqb b w ≡ false). let q : pos ≡ f.byte = ap (λ x. x.byte) (same_fault _ f (sym (cond-false _ _ _ t) ∙ e)) in absurd (omega arith))
    (cases_Bool (eqb b w))

pub ends_early : EndsEarly
unfolding read
ends_early t f e is end n le =
    let all = take-append-drop n t in
    let size : length (take n t) ≡ n = length-take-le n t le in
    let r = word_early word 0 (take n t) (drop n t) f is (ap read all ∙ e) (end ∙ ap length (sym all) ∙ omega arith) in
    (r.0, r.1 ∙ ap (λ k. fault Pattern k r.0) (omega arith))

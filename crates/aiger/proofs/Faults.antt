-- A fault names a byte of the text, or its end, and the number of line ends before it.
use Rattle.std.proofs.Common.{◌≡◌, ℕ, ◌+◌, ◌-◌, Bool, true, false, cond, eqb, ◌⊎◌, List, [], ◌∷◌, ◌++◌, length, take, Some, None, Ok, Err, Option, sym, refl, ap, ◌∙◌, subst, inl, inr, ⊎_elim, append_assoc, arith}
use Rattle.std.specs.List.{AllByRecursion as All}
use Rattle.std.proofs.lemmas.List.{length-append, take_at}
use Rattle.std.proofs.lemmas.Bool.{ne_eqb, eqb-true}
use Rattle.drawing.specs.declared.refusal.Fault.{Fault}
use Rattle.aiger.specs.declared.part.Kind.{Kind}
use Rattle.drawing.specs.declared.refusal.Rule.TheVariants.{Pattern, Figures}
use Rattle.drawing.specs.Drawing.{Drawing}
use Rattle.aiger.specs.Text.{word}
use Rattle.aiger.specs.Laws.{ends, Placed}
use Rattle.aiger.specs.Reads.{Act, Digit, Space, Newline, Stop, act, Scan, broken, whole, scan, Sheet, width, fits, add, headed, Outcome, fault, after, read_lines, read_word, read}
use Rattle.aiger.proofs.Lines.{Says, act_says, turn}

ends_append : (xs ys : List ℕ) → ends (xs ++ ys) ≡ ends xs + ends ys
ends_append [] ys = omega arith
ends_append (x ∷ xs) ys = let h = ends_append xs ys in omega arith

no_end : (b : ℕ) (bs : List ℕ) → (b ≡ 10 → ⊥) → ends (b ∷ bs) ≡ ends bs
no_end b bs ne = let e = ap (λ t. cond t 1 0 + ends bs) (ne_eqb b 10 ne) in e ∙ omega arith

-- the bytes bs up to a place
pub record Up (bs : List ℕ) (pos to lines : ℕ) (rest : List ℕ) : Type 0 where
  pub pre : List ℕ
  pub split : bs ≡ pre ++ rest
  pub byte : to ≡ pos + length pre
  pub line : ends pre ≡ lines

up_none : (bs : List ℕ) (pos : ℕ) → Up bs pos pos 0 bs
up_none bs pos = record { pre = []; split = refl; byte = omega arith; line = refl }

up_more : (b : ℕ) (bs : List ℕ) (pos to lines : ℕ) (rest : List ℕ) → (b ≡ 10 → ⊥) → Up bs (pos + 1) to lines rest → Up (b ∷ bs) pos to lines rest
up_more b bs pos to lines rest ne u =
    record { pre = b ∷ u.pre; split = ap (λ l. b ∷ l) u.split; byte = omega (arith, u.byte); line = no_end b u.pre ne ∙ u.line }

up_join : (bs cs ds : List ℕ) (pos mid to l k : ℕ) → Up bs pos mid l cs → Up cs mid to k ds → Up bs pos to (l + k) ds
up_join bs cs ds pos mid to l k u v =
    record {
      pre = u.pre ++ v.pre;
      split = u.split ∙ ap (λ x. u.pre ++ x) v.split ∙ sym (append_assoc u.pre v.pre ds);
      byte = omega (arith, u.byte, v.byte, length-append u.pre v.pre);
      line = omega (arith, u.line, v.line, ends_append u.pre v.pre);
    }

abbrev Spots : List ℕ → ℕ → Scan → Type 0
Spots bs pos (broken p) = (rest : List ℕ) × Up bs pos p 0 rest
Spots bs pos (whole ns p rest) = Up bs pos p 1 rest

spots_more : (b : ℕ) (bs : List ℕ) (pos : ℕ) (s : Scan) → (b ≡ 10 → ⊥) → Spots bs (pos + 1) s → Spots (b ∷ bs) pos s
spots_more b bs pos (broken p) ne h = (h.0, up_more b bs pos p 0 h.0 ne h.1)
spots_more b bs pos (whole ns p rest) ne h = up_more b bs pos p 1 rest ne h

spots_turn : (more : ℕ) (done : List ℕ) (number : Option ℕ) (pos b : ℕ) (bs : List ℕ) (a : Act) → Says more number b a
    → ((more' : ℕ) (done' : List ℕ) (number' : Option ℕ) → Spots bs (pos + 1) (scan more' done' number' (pos + 1) bs)) → Spots (b ∷ bs) pos (turn more done pos bs a)
spots_turn more done number pos b bs (Digit v) s ih = spots_more b bs pos _ (λ e. omega (arith, s.2)) (ih more done (Some v))
spots_turn more done number pos b bs (Space v) s ih = spots_more b bs pos _ (λ e. omega (arith, s.1)) (ih (more - 1) (done ++ v ∷ []) None)
spots_turn more done number pos b bs (Newline v) s ih =
    record { pre = 10 ∷ []; split = ap (λ x. x ∷ bs) s.1; byte = refl; line = refl }
spots_turn more done number pos b bs Stop s ih = (b ∷ bs, up_none (b ∷ bs) pos)

scan_spots : (more : ℕ) (done : List ℕ) (number : Option ℕ) (pos : ℕ) (bs : List ℕ) → Spots bs pos (scan more done number pos bs)
unfolding scan
scan_spots more done number pos [] = ([], up_none [] pos)
scan_spots more done number pos (b ∷ bs) =
    spots_turn more done number pos b bs (act more number b) (act_says more number b) (λ more' done' number'. scan_spots more' done' number' (pos + 1) bs)

-- the fault f of the bytes bs, which begin at the byte `at` and the line ln
pub record Spot (bs : List ℕ) (pos ln : ℕ) (f : Fault) : Type 0 where
  pub rest : List ℕ
  pub lines : ℕ
  pub up : Up bs pos f.byte lines rest
  pub line : f.line ≡ ln + lines

pub ok_err : {A : Type 0} {f : Fault} {d : Drawing} → ◌≡◌ {A = Outcome} (Ok d) (Err f) → A
ok_err e = let z : ◌≡◌ {A = ℕ} 0 1 = cc in absurd (omega arith)

pub same_fault : (f g : Fault) → ◌≡◌ {A = Outcome} (Err f) (Err g) → f ≡ g
same_fault f g e = cc

here : (bs : List ℕ) (pos ln : ℕ) (f : Fault) → f.byte ≡ pos → f.line ≡ ln → Spot bs pos ln f
here bs pos ln f e l =
    record { rest = bs; lines = 0; up = record { pre = []; split = refl; byte = omega arith; line = refl }; line = omega arith }

-- a line that is refused, or passed on
line_spot : (s : Scan) (bs : List ℕ) (pos ln : ℕ) (ok : List ℕ → Bool) (g f : Fault) (go : List ℕ → ℕ → List ℕ → Outcome)
    → Spots bs pos s → after s ln ok (Err g) go ≡ Err f → ((ns : List ℕ) (next : ℕ) (rest : List ℕ) → go ns next rest ≡ Err f → Spot rest next (ln + 1) f)
    → Spot bs pos ln f ⊎ (f ≡ g)
line_spot (broken p) bs pos ln ok g f go sp e ih =
    let h = same_fault _ _ e in
    inl (record {
      rest = sp.0;
      lines = 0;
      up = subst (λ k. Up bs pos k 0 sp.0) (ap (λ x. x.byte) h) sp.1;
      line = omega (arith, ap (λ x. x.line) h);
    })
line_spot (whole ns p rest) bs pos ln ok g f go sp e ih = by (ok ns) e
  where
    by : (t : Bool) → cond t (go ns p rest) (Err g) ≡ Err f → Spot bs pos ln f ⊎ (f ≡ g)
    by true e =
        let r = ih ns p rest e in
        inl (record { rest = r.rest; lines = 1 + r.lines; up = up_join bs rest r.rest pos p f.byte 1 r.lines sp r.up; line = omega (arith, r.line) })
    by false e = inr (sym (same_fault _ _ e))

lines_spot : (ps : List Kind) (sh : Sheet) (ln pos : ℕ) (bs : List ℕ) (f : Fault) → read_lines ps sh ln pos bs ≡ Err f → Spot bs pos ln f
unfolding read_lines
lines_spot [] sh ln pos [] f e = ok_err e
lines_spot [] sh ln pos (b ∷ bs) f e =
    let h = same_fault _ _ e in
    here (b ∷ bs) pos ln f (sym (ap (λ x. x.byte) h)) (sym (ap (λ x. x.line) h))
lines_spot (p ∷ ps) sh ln pos bs f e =
    ⊎_elim (λ s. s) (λ g. here bs pos ln f (ap (λ x. x.byte) g) (ap (λ x. x.line) g))
    (line_spot (scan (width p) [] None pos bs) bs pos ln (fits p sh) _ f _ (scan_spots (width p) [] None pos bs) e (λ ns next rest h. lines_spot ps (add p sh ns) (ln + 1) next rest f h))

word_by : (w b : ℕ) → (w ≡ 10 → ⊥) → (pos : ℕ) (bs : List ℕ) (f : Fault) (x : Outcome) → (x ≡ Err f → Spot bs (pos + 1) 0 f ⊎ (f ≡ record { rule = Figures; byte = 0; line = 0 })) → (t : Bool) → eqb b w ≡ t → cond t x (fault Pattern pos 0) ≡ Err f
    → Spot (b ∷ bs) pos 0 f ⊎ (f ≡ record { rule = Figures; byte = 0; line = 0 })
word_by w b ne pos bs f x ih true t e =
    let same = eqb-true b w t in
    ⊎_elim
    (λ s. inl (record { rest = s.rest; lines = s.lines; up = up_more b bs pos f.byte s.lines s.rest (λ z. ne (sym same ∙ z)) s.up; line = s.line }))
    inr (ih e)
word_by w b ne pos bs f x ih false t e =
    let h = same_fault _ _ e in
    inl (here (b ∷ bs) pos 0 f (sym (ap (λ x. x.byte) h)) (sym (ap (λ x. x.line) h)))

word_spot : (ws : List ℕ) → All (λ w. w ≡ 10 → ⊥) ws → (pos : ℕ) (bs : List ℕ) (f : Fault) → read_word ws pos bs ≡ Err f → Spot bs pos 0 f ⊎ (f ≡ record { rule = Figures; byte = 0; line = 0 })
unfolding read_word
word_spot [] a pos bs f e =
    line_spot (scan 4 [] None pos bs) bs pos 0 headed _ f _ (scan_spots 4 [] None pos bs) e (λ ns next rest h. lines_spot _ _ 1 next rest f h)
word_spot (w ∷ ws) a pos [] f e = let h = same_fault _ _ e in inl (here [] pos 0 f (sym (ap (λ x. x.byte) h)) (sym (ap (λ x. x.line) h)))
word_spot (w ∷ ws) a pos (b ∷ bs) f e =
    word_by w b a.0 pos bs f (read_word ws (pos + 1) bs) (λ h. word_spot ws a.1 (pos + 1) bs f h) (eqb b w) refl e

pub faults_placed : (t : List ℕ) (f : Fault) → read t ≡ Err f → Placed t f
unfolding read
faults_placed t f e =
    ⊎_elim
    (λ s.
    let u = s.up in
    let k : f.byte ≡ length u.pre = omega (arith, u.byte) in
    record {
      within = omega (arith, ap length u.split, length-append u.pre s.rest);
      line = (λ i. ends (take (k i) (u.split i))) ∙ ap ends (take_at u.pre s.rest (length u.pre) refl) ∙ omega (arith, u.line, s.line);
    })
    (λ g. record { within = omega (arith, ap (λ x. x.byte) g); line = ap (λ x. ends (take x.byte t)) g ∙ sym (ap (λ x. x.line) g) })
    (word_spot word ((λ e. omega arith), ((λ e. omega arith), ((λ e. omega arith), ((λ e. omega arith), tt)))) 0 t f e)

-- The law over histories: what a job holds is what its calls make, so what map owes by its job it owes by the book.
use Rattle.std.proofs.Common.{◌≡◌, ℕ, zero, suc, ◌+◌, ◌<◌, ◌≤◌, Bool, true, false, ◌&&◌, ◌||◌, ltb, ◌≢◌, List, [], ◌∷◌, length, Ok, Err, Result, sym, refl, ap, ◌∙◌, subst, ⊎_elim, arith}
use Rattle.std.proofs.lemmas.Bool.{and_parts, and_from, and_left, and_right, both_ways, cases_eq, cond-true, cond-false, eq-eqb, ne_eqb, le-leb, lt-leb}
use Rattle.drawing.specs.declared.refusal.Refusal.{Refusal}
use Rattle.drawing.specs.declared.refusal.Refusal.TheVariants.{NodesFull, OutputsFull, BadLiteral, NotAGate, BadWidth, Text, TooShort, Crowded, BadBit, NoSection}
use Rattle.drawing.specs.Drawing.{at, is_gate}
use Rattle.drawing.proofs.Sound.{gate_range}
use Rattle.family.specs.Family.{Delay, Laws}
use Rattle.cells.specs.declared.cover.Cover.{Cover}
use Rattle.cells.specs.Netlists.{netlist_of}
use Rattle.covering.specs.Chosen.{chosen}
use Rattle.covering.proofs.ChosenCover.{chosen_fits, chosen_agrees, chosen_narrow, chosen_first}
use Rattle.fitter.specs.declared.job.Job.{Job}
use Rattle.fitter.specs.Book.{Book, size, needed_in, crowded_at, first_from, stop_of}
use Rattle.fitter.specs.Calls.{Call, add_input, add_gate, add_output, retie_gate, set_width, load_text, map_by, book_after, kept_after, book_of_calls, kept_of_calls}
use Rattle.fitter.specs.Jobs.{book_of, is_kept}
use Rattle.fitter.specs.History.{Did, Handled}
use Rattle.fitter.specs.Mapping.{Mapped, Serves, AnswersFor}
use Rattle.fitter.proofs.AtHand.{width_few}
use Rattle.fitter.proofs.Arrivals.{width_wide}

-- the book of a history is what the job holds
pub handled_book : (h : List Call) (j : Job) → Handled h j → book_of j ≡ book_of_calls h
handled_book [] j f = f.book
handled_book (c ∷ h) j (i, (g, d)) = d.book ∙ ap (book_after c) (handled_book h i g)

-- what a call leaves of a list hangs on that list alone
kept_same : (c : Call) (b : Book) (f g : ℕ → Bool) (u : ℕ) → f u ≡ g u → kept_after c b f u ≡ kept_after c b g u
kept_same add_input b f g u e = e
kept_same (add_gate p) b f g u e = e
kept_same (add_output l) b f g u e = e
kept_same (retie_gate v p) b f g u e = rw e refl
kept_same (set_width k) b f g u e = rw e refl
kept_same (load_text t) b f g u e = rw e refl
kept_same (map_by w n) b f g u e = rw e refl

-- and so are the kept lists
pub handled_kept : (h : List Call) (j : Job) → Handled h j → (u : ℕ) → is_kept j u ≡ kept_of_calls h u
handled_kept [] j f u = f.lists u
handled_kept (c ∷ h) j (i, (g, d)) u =
    d.lists u ∙ ap (λ b. kept_after c b (is_kept i) u) (handled_book h i g) ∙ kept_same c (book_of_calls h) (is_kept i) (kept_of_calls h) u (handled_kept h i g u)

-- the first that passes
first_none : (p : ℕ → Bool) (v n : ℕ) → ((u : ℕ) → p u ≡ false) → first_from p v n ≡ v + n
first_none p v zero h = omega arith
first_none p v (suc n) h = cond-false (p v) _ _ (h v) ∙ first_none p (v + 1) n h ∙ omega arith

first_at : (p : ℕ → Bool) (v n g : ℕ) → v ≤ g → g < v + n → p g ≡ true → ((u : ℕ) → u < g → p u ≡ false) → first_from p v n ≡ g
first_at p v zero g l m t h = absurd (omega arith)
first_at p v (suc n) g l m t h =
    ⊎_elim
    (λ (e : v ≡ g). cond-true (p v) _ _ (ap p e ∙ t) ∙ e)
    (λ (e : v ≢ g). cond-false (p v) _ _ (h v (omega arith)) ∙ first_at p (v + 1) n g (omega arith) (omega arith) t h)
    (cases_eq v g)

stop_none : (b : Book) → ((u : ℕ) → crowded_at b u ≡ false) → stop_of b ≡ size b
stop_none b h = first_none (crowded_at b) 0 (size b) h ∙ omega arith

stop_at : (b : Book) (g : ℕ) → crowded_at b g ≡ true → ((u : ℕ) → u < g → crowded_at b u ≡ false) → stop_of b ≡ g
stop_at b g t h =
    let n = (and_parts (needed_in b g) _ t).0 in
    let l = gate_range b.drawing.nodes g (and_parts (is_gate (at b.drawing.nodes g)) _ n).0 in
    first_at (crowded_at b) 0 (size b) g (omega arith) (omega arith) t h

module _ {A : Type 0} (F : Delay A) (L : Laws F) where
  -- a map that gets as far as the lists, as a step of a history
  kept_by_map : (i j : Job) (n stop : ℕ) → F.width ≡ i.width → size (book_of i) ≤ n → stop_of (book_of i) ≡ stop →
      ((u : ℕ) → is_kept j u ≡ (is_kept i u || (ltb u stop && needed_in (book_of i) u))) → (u : ℕ) → is_kept j u ≡ kept_after (map_by F.width n) (book_of i) (is_kept i) u
  kept_by_map i j n stop w l e h u =
      h u ∙ ap (λ z. is_kept i u || (ltb u z && needed_in (book_of i) u)) (sym e) ∙ sym (cond-true _ _ _ (and_from _ _ (eq-eqb _ _ w) (le-leb _ _ l)))

  pub mapped_did : (i j : Job) (cover cover' : Cover) (table table' : List A) (r : Result (ℕ × ℕ) Refusal) → Mapped F i cover table r j cover' table' → Did (map_by F.width (length table)) i j
  mapped_did i j cover cover' table table' (Ok p) a =
      record { book = a.ready.same; lists = kept_by_map i j (length table) (size (book_of i)) a.fitting a.room (stop_none (book_of i) a.ready.fits) a.ready.kept }
  mapped_did i j cover cover' table table' (Err BadWidth) (ne, same, rest) =
      record { book = ap book_of same; lists = λ u. ap (λ z. is_kept z u) same ∙ sym (cond-false _ _ _ (and_left _ _ (ne_eqb _ _ ne))) }
  mapped_did i j cover cover' table table' (Err TooShort) (w, short, same, rest) =
      record { book = ap book_of same; lists = λ u. ap (λ z. is_kept z u) same ∙ sym (cond-false _ _ _ (and_right _ _ (lt-leb _ _ short))) }
  mapped_did i j cover cover' table table' (Err (Crowded g)) (w, room, s, rest) =
      record { book = s.same; lists = kept_by_map i j (length table) g w room (stop_at (book_of i) g s.crowd s.lowest) s.kept }
  mapped_did i j cover cover' table table' (Err NodesFull) m = absurd m
  mapped_did i j cover cover' table table' (Err OutputsFull) m = absurd m
  mapped_did i j cover cover' table table' (Err BadLiteral) m = absurd m
  mapped_did i j cover cover' table table' (Err NotAGate) m = absurd m
  mapped_did i j cover cover' table table' (Err (Text f)) m = absurd m
  mapped_did i j cover cover' table table' (Err (BadBit n)) m = absurd m
  mapped_did i j cover cover' table table' (Err NoSection) m = absurd m

  -- the chosen cover of a job's drawing serves its book
  chosen_serves : (i : Job) → Serves F (book_of i) (chosen F (book_of i).drawing i.width)
  chosen_serves i =
      let d = (book_of i).drawing in
      let k = i.width in
      let law = i.table.law in
      record {
        is_chosen = refl;
        same_inputs = (chosen_fits F d k law (width_wide i) (width_few i)).0;
        as_many_outputs = (chosen_fits F d k law (width_wide i) (width_few i)).1;
        right_values = chosen_agrees F L d k law (width_wide i) (width_few i);
        few_leaves = chosen_narrow F L d k law (width_wide i) (width_few i);
        none_earlier = chosen_first F L d k law (width_wide i) (width_few i);
      }

  answers_own : (i j : Job) (cover cover' : Cover) (table table' : List A) (r : Result (ℕ × ℕ) Refusal) → Mapped F i cover table r j cover' table' → AnswersFor F (book_of i) (length table) r (netlist_of cover')
  answers_own i j cover cover' table table' (Ok p) a = record {
    serves = λ _. subst (Serves F (book_of i)) (sym a.cover_chosen) (chosen_serves i);
    crowded_refused = λ w l v c. absurd (both_ways _ (a.ready.fits v) c);
    refused_crowded = λ w l e. absurd (both_ways true e refl);
  }
  answers_own i j cover cover' table table' (Err BadWidth) (ne, same, rest) =
      record { serves = λ e. absurd (both_ways false refl e); crowded_refused = λ w l v c. refl; refused_crowded = λ w l e. absurd (ne w) }
  answers_own i j cover cover' table table' (Err TooShort) (w, short, same, rest) =
      record { serves = λ e. absurd (both_ways false refl e); crowded_refused = λ w' l v c. refl; refused_crowded = λ w' l e. absurd (omega arith) }
  answers_own i j cover cover' table table' (Err (Crowded g)) (w, room, s, rest) =
      record { serves = λ e. absurd (both_ways false refl e); crowded_refused = λ w' l v c. refl; refused_crowded = λ w' l e. (g, s.crowd) }
  answers_own i j cover cover' table table' (Err NodesFull) m = absurd m
  answers_own i j cover cover' table table' (Err OutputsFull) m = absurd m
  answers_own i j cover cover' table table' (Err BadLiteral) m = absurd m
  answers_own i j cover cover' table table' (Err NotAGate) m = absurd m
  answers_own i j cover cover' table table' (Err (Text f)) m = absurd m
  answers_own i j cover cover' table table' (Err (BadBit n)) m = absurd m
  answers_own i j cover cover' table table' (Err NoSection) m = absurd m

  -- by any history of calls that led to the job
  pub mapped_answers : (i j : Job) (cover cover' : Cover) (table table' : List A) (r : Result (ℕ × ℕ) Refusal) → Mapped F i cover table r j cover' table' →
      (h : List Call) → Handled h i → AnswersFor F (book_of_calls h) (length table) r (netlist_of cover')
  mapped_answers i j cover cover' table table' r m h g =
      subst (λ b. AnswersFor F b (length table) r (netlist_of cover')) (handled_book h i g) (answers_own i j cover cover' table table' r m)

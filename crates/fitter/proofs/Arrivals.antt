-- Going through the nodes by rising number: the cuts taken, and the arrivals.
use Rattle.std.proofs.Common.{◌≡◌, ℕ, ◌+◌, ◌<◌, ◌≤◌, Bool, true, false, Option, Some, option_map, Bor, List, ◌++◌, length, take, drop, set, sym, refl, ap, ◌∙◌, arith}
use Rattle.std.proofs.lemmas.List.FromFn.{fill_by_all}
use Rattle.std.proofs.lemmas.List.{drop-set-lt, take-append-drop, length-take-le, get_or-take, length-map}
use Rattle.std.proofs.lemmas.Bool.{and_parts, leb-true}
use Rattle.std.specs.Bool.{then_some}
use Rattle.std.specs.Option.{ForSome}
use Rattle.drawing.specs.Drawing.{drawing, lawful}
use Rattle.drawing.specs.Sets.{below, every, elem}
use Rattle.cuts.specs.declared.cut.Cut.{Cut}
use Rattle.cuts.specs.Cuts.{least_cuts, Alike}
use Rattle.cuts.specs.Leaves.{leaves_of, sets_of}
use Rattle.family.specs.Family.{Delay, Laws}
use Rattle.choice.specs.Choice.{tabled, cut_by, arrival_by, Chosen}
use Rattle.choice.proofs.Filling.{AtHand, listed_within, listed_some, cut_right, filled_more, chosen_more}
use Rattle.fitter.specs.declared.job.Job.{Job}
use Rattle.fitter.specs.Book.{Book, needed_in}
use Rattle.fitter.specs.Jobs.{book_of}
use Rattle.fitter.specs.Keeping.{row_of}
use Rattle.fitter.specs.Taking.{AllKept, arrival_table, Arrived}

module _ (j : Job) where
  -- the law of the drawing, and that the width is at least 2
  pub job_lawful : lawful (drawing (book_of j).drawing.nodes (book_of j).drawing.outputs) ≡ true
  job_lawful = j.table.law

  pub width_wide : 2 ≤ j.width
  width_wide = leb-true _ _ (and_parts _ _ j.part).0

  -- node v takes its cut from its row, if it is a needed gate
  module _ (kept : AllKept j) (v : ℕ) (here : Bool) (same : here ≡ needed_in (book_of j) v) (row : Bor (List Cut)) (is : row.now ≡ row_of j.lists v) (list : Option (Bor (List Cut))) (given : list ≡ then_some here row) where
    row_alike : here ≡ true → Alike (sets_of row.now) (least_cuts (book_of j).drawing.nodes j.width v)
    row_alike h s = ap (λ z. elem_at z s) is ∙ j.listed v (kept v (sym same ∙ h)) s
      where
        elem_at : List Cut → List ℕ → Bool
        elem_at z t = elem t (sets_of z)

    row_given : (r : Bor (List Cut)) → list ≡ Some r → (here ≡ true) × (row ≡ r)
    row_given r e = go here (sym given ∙ e)
      where
        go : (h : Bool) → then_some h row ≡ Some r → (h ≡ true) × (row ≡ r)
        go true q = (refl, cc)
        go false q = absurd cc

    pub list_some : ForSome list (λ r. 0 < length r.now)
    list_some r e =
        let g = row_given r e in
        rw (← g.1)
        (omega (arith, length-map row.now leaves_of, listed_some (book_of j).drawing.nodes (book_of j).drawing.outputs job_lawful j.width v (sets_of row.now) width_wide (sym same ∙ g.0) (row_alike g.0)))

    pub list_within : (n : ℕ) → v ≤ n → ForSome list (λ r. every (below n) (sets_of r.now) ≡ true)
    list_within n l r e =
        let g = row_given r e in
        rw (← g.1) (listed_within (book_of j).drawing.nodes (book_of j).drawing.outputs job_lawful j.width v n (sets_of row.now) l (row_alike g.0))

    pub list_at_hand : AtHand (book_of j).drawing.nodes (book_of j).drawing.outputs job_lawful j.width v (option_map (λ r. sets_of r.now) list)
    list_at_hand = rw given (go here refl)
      where
        go : (h : Bool) → here ≡ h → AtHand (book_of j).drawing.nodes (book_of j).drawing.outputs job_lawful j.width v (option_map (λ r. sets_of r.now) (then_some h row))
        go true q = (sym same ∙ q, row_alike q)
        go false q = sym same ∙ q

  module _ (v : ℕ) (list : Option (List (List ℕ))) (at_hand : AtHand (book_of j).drawing.nodes (book_of j).drawing.outputs job_lawful j.width v list)
      {A : Type 0} (F : Delay A) (L : Laws F) (old table : List A) (before : Arrived F (book_of j) v old table) where
    pub arrived_step : (new : List A) → v < length (book_of j).drawing.nodes → v < length table → new ≡ set table v (arrival_by F table list) → Arrived F (book_of j) (v + 1) old new
    arrived_step new l room written = record {
      filled = filled_more (book_of j).drawing.nodes (book_of j).drawing.outputs job_lawful j.width F L width_wide v table before.filled list at_hand new l room written;
      behind = ap (drop (length (book_of j).drawing.nodes)) written ∙ drop-set-lt (length (book_of j).drawing.nodes) table v _ l ∙ before.behind;
    }

    pub taken_step : (cs : List Cut) (c : Cut) → v < length cs → Chosen F (book_of j).drawing.nodes (book_of j).drawing.outputs j.width v (sets_of cs) → leaves_of c ≡ cut_by F table list → Chosen F (book_of j).drawing.nodes (book_of j).drawing.outputs j.width (v + 1) (sets_of (set cs v c))
    taken_step cs c m t e =
        chosen_more F (book_of j).drawing.nodes (book_of j).drawing.outputs j.width leaves_of cs v c m t
        (e ∙ cut_right (book_of j).drawing.nodes (book_of j).drawing.outputs job_lawful j.width F L width_wide v table before.filled list at_hand)

module _ {A : Type 0} (F : Delay A) (b : Book) where
  pub arrived_start : (table : List A) → Arrived F b 0 table table
  arrived_start table = record { filled = λ u l. absurd (omega arith); behind = refl }

  pub arrived_done : (old new : List A) → length b.drawing.nodes ≤ length new → Arrived F b (length b.drawing.nodes) old new → new ≡ arrival_table F b ++ drop (length b.drawing.nodes) old
  arrived_done old new l a =
      let n = length b.drawing.nodes in
      let front : take n new ≡ arrival_table F b =
      fill_by_all (tabled F b.drawing.nodes b.drawing.outputs b.width) (take n new) n F.start (length-take-le n new l) (λ k h. get_or-take n new k F.start h ∙ a.filled k h) in
      sym (take-append-drop n new) ∙ ap (λ z. z ++ drop n new) front ∙ ap (λ z. arrival_table F b ++ z) a.behind

-- What an accepted map tells, by the calls before it alone.
use Rattle.std.proofs.Common.{◌≡◌, ℕ, Bool, List, ◌++◌, take, drop, IfOk, Ok, Err, Result, ap, ◌∙◌, subst}
use mathlib.Core.Path.{fun_ext}
use Rattle.std.proofs.lemmas.List.FromFn.{length-map-range_with_len}
use Rattle.std.proofs.lemmas.List.{take_at}
use Rattle.drawing.specs.declared.refusal.Refusal.{Refusal}
use Rattle.family.specs.Family.{Delay}
use Rattle.cells.specs.declared.cover.Cover.{Cover}
use Rattle.cells.specs.Netlists.{netlist_of}
use Rattle.fitter.specs.declared.job.Job.{Job}
use Rattle.fitter.specs.Book.{Book, size}
use Rattle.fitter.specs.Calls.{Call, book_of_calls}
use Rattle.fitter.specs.History.{Handled}
use Rattle.fitter.specs.Jobs.{is_kept}
use Rattle.fitter.specs.Making.{made_below}
use Rattle.fitter.specs.Mapping.{Mapped, Accepted}
use Rattle.fitter.specs.Taking.{arrival_table}
use Rattle.fitter.proofs.Histories.{handled_book, handled_kept}
use Rattle.flow.specs.Walk.{Tells}

module _ {A : Type 0} (F : Delay A) (h : List Call) (i j : Job) (table table' : List A) (cover cover' : Cover) (g : Handled h i) where
  accepted_tells : (p : ℕ × ℕ) → Accepted F i table p j (netlist_of cover') table' → Tells F h p (netlist_of cover') table'
  accepted_tells p m =
      let same = handled_book h i g in
      let b = book_of_calls h in
      let is : table' ≡ arrival_table F b ++ drop (size b) table = subst (λ (z : Book). table' ≡ arrival_table F z ++ drop (size z) table) same m.arrivals in
      record {
        cell_count = m.cell_count;
        list_count =
            m.ready.made ∙ ap (λ (z : Book). made_below z (is_kept i) (size z)) same
            ∙ ap (λ (f : ℕ → Bool). made_below b f (size b)) (fun_ext (handled_kept h i g));
        arrivals = ap (take (size b)) is ∙ take_at (arrival_table F b) (drop (size b) table) (size b) (length-map-range_with_len _ 0 (size b));
      }

  pub mapped_tells : (r : Result (ℕ × ℕ) Refusal) → Mapped F i cover table r j cover' table' → IfOk r (λ p. Tells F h p (netlist_of cover') table')
  mapped_tells (Ok p) m = accepted_tells p m
  mapped_tells (Err e) m = tt

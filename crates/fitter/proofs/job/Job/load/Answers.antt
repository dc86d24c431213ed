use Rattle.std.proofs.Common.{is_ok, sym, ap, ◌∙◌}
use Rattle.std.proofs.lemmas.Bool.{cond-true}
use Rattle.drawing.specs.Tables.{drawing_of}
use Rattle.fitter.specs.Book.{book, loaded}
use Rattle.fitter.specs.Calls.{drawing_from}
use Rattle.fitter.proofs.Stays.{nothing_kept}
use Rattle.fitter.proofs.job.Job.load.Goals as goal

pub invariant_of-self : goal.invariant_of-self
invariant_of-self c =
    let none = nothing_kept _ c.clear.ensures in record { part = c.args.self.now.part; gates = (λ v h. absurd (none v h)); listed = (λ v h s. absurd (none v h)); counted = (λ v h. absurd (none v h)) }

pub returns : goal.returns
returns c =
    let j = c.args.self.now in
    let r = c.in_ok-table.ensures.reads in
    record {
      answer = sym (ap loaded r);
      did = record {
        book = sym (ap (λ z. book (drawing_from z (drawing_of j.table)) j.width) r);
        lists = λ u. c.clear.ensures u ∙ sym (cond-true _ _ _ (ap is_ok r));
      };
      refused = tt;
    }

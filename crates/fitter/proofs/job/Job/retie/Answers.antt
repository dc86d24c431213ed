use Rattle.std.proofs.Common.{◌≡◌, ℕ, Bool, false, not, ◌&&◌, ◌||◌, eqb, get_or, is_ok, Err, sym, refl, ap, ◌∙◌}
use Rattle.std.proofs.lemmas.Result.{err_from_is_err_and}
use Rattle.std.proofs.lemmas.Bool.{cond-true, cond-false}
use Rattle.drawing.specs.Reach.{depends}
use Rattle.drawing.specs.Tables.{drawing_of}
use Rattle.fitter.specs.Book.{book}
use Rattle.fitter.specs.Jobs.{is_kept}
use Rattle.fitter.specs.Keeping.{held_of, row_of}
use Rattle.fitter.proofs.Same.{same_job}
use Rattle.fitter.proofs.Stays.{job_stays, unless_is}
use Rattle.fitter.proofs.Retied.{stays_equal, tied, retied_gates, retied_listed, retied_counted}
use Rattle.fitter.proofs.job.Job.retie.Goals as goal

pub invariant_of-self : goal.invariant_of-self
invariant_of-self c =
    let j = c.args.self.now in
    let s = stays_equal (drawing_of j.table).nodes (drawing_of c.retie.new.self).nodes (ap (λ t. (drawing_of t).nodes) c.in_err-retie.ensures.refused) in
    let all = job_stays j c.retie.new.self s in record { part = all.0; gates = all.1.0; listed = all.1.1.0; counted = all.1.1.1 }

pub invariant_of-self-2 : goal.invariant_of-self-2
invariant_of-self-2 c =
    let j = c.args.self.now in
    let g = c.args.gate in
    let d = drawing_of j.table in
    let t = c.retie.new.self in
    let k = c.forget.new.self in
    let marks : ℕ → Bool = λ u. get_or c.dependents-above.result u false in
    let is = tied d (drawing_of t) g c.args.pair c.in_ok-retie.ensures.answer c.in_ok-retie.ensures.after in
    let marked : (u : ℕ) → marks u ≡ (eqb u g || depends d.nodes g u) = c.dependents-above.ensures in record { part = j.part; gates = retied_gates d (drawing_of t) g c.args.pair j.width is j.table.law t.law (held_of j.lists) (held_of k) marks (row_of j.lists) (row_of k) c.forget.ensures.held marked c.forget.ensures.rows j.gates; listed = retied_listed d (drawing_of t) g c.args.pair j.width is j.table.law t.law (held_of j.lists) (held_of k) marks (row_of j.lists) (row_of k) c.forget.ensures.held marked c.forget.ensures.rows j.gates j.listed; counted = retied_counted d (drawing_of t) g c.args.pair j.width is j.table.law t.law (held_of j.lists) (held_of k) marks (row_of j.lists) (row_of k) c.forget.ensures.held marked c.forget.ensures.rows j.gates j.counted }

pub returns : goal.returns
returns c =
    let j = c.args.self.now in
    let g = c.args.gate in
    let a = c.in_ok-retie.ensures.answer in
    record {
      answer = a;
      did = record {
        book = ap (λ d. book d j.width) c.in_ok-retie.ensures.after;
        lists = λ u.
            c.forget.ensures.held u
            ∙ ap (λ z. is_kept j u && not z) (c.dependents-above.ensures u)
            ∙ sym (cond-true _ _ _ (ap is_ok (sym a)));
      };
      refused = tt;
    }

pub returns-in_err-retie : goal.returns-in_err-retie
returns-in_err-retie c =
    let j = c.args.self.now in
    let p = err_from_is_err_and c.from_residual.result c.from_residual.ensures.1 in
    let e = c.in_err-retie.ensures in
    record {
      answer = p.1 ∙ ap Err p.2 ∙ e.answer;
      did = record { book = ap (λ d. book d j.width) e.after; lists = λ u. sym (cond-false _ _ _ (ap is_ok (sym e.answer))) };
      refused = unless_is c.from_residual.result p.0 p.1 (same_job _ _ e.refused refl refl);
    }

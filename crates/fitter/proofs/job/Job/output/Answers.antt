use Rattle.std.proofs.Common.{[], ◌∷◌, ◌++◌, is_ok, refl, ap}
use Rattle.drawing.specs.Tables.{drawing_of}
use Rattle.drawing.specs.Calls.{output_answer}
use Rattle.fitter.specs.Book.{book}
use Rattle.fitter.proofs.Stays.{stays_output, job_stays, unless_same}
use Rattle.fitter.proofs.Same.{same_job}
use Rattle.fitter.proofs.job.Job.output.Goals as goal

pub invariant_of-self : goal.invariant_of-self
invariant_of-self c =
    let j = c.args.self.now in
    let t = c.output.new.self in
    let s = stays_output (drawing_of j.table) (drawing_of t) ((drawing_of j.table).outputs ++ c.args.literal ∷ []) (is_ok (output_answer (drawing_of j.table) c.args.literal)) c.output.ensures.after in
    let all = job_stays j t s in record { part = all.0; gates = all.1.0; listed = all.1.1.0; counted = all.1.1.1 }

pub returns : goal.returns
returns c =
    record {
      answer = c.output.ensures.answer;
      did = record { book = ap (λ d. book d c.args.self.now.width) c.output.ensures.after; lists = λ u. refl };
      refused = unless_same c.output.result (λ e. same_job _ _ e refl refl) c.output.ensures.refused;
    }

use Rattle.std.proofs.Common.{is_ok, refl, ap}
use Rattle.drawing.specs.Tables.{drawing_of}
use Rattle.drawing.specs.Calls.{gate_answer}
use Rattle.drawing.specs.declared.node.Node.TheVariants.{Gate}
use Rattle.fitter.specs.Book.{book}
use Rattle.fitter.proofs.Stays.{stays_node, job_stays, unless_same}
use Rattle.fitter.proofs.Same.{same_job}
use Rattle.fitter.proofs.job.Job.gate.Goals as goal

pub invariant_of-self : goal.invariant_of-self
invariant_of-self c =
    let j = c.args.self.now in
    let t = c.gate.new.self in
    let s = stays_node (drawing_of j.table) (drawing_of t) (Gate c.args.pair) (is_ok (gate_answer (drawing_of j.table) c.args.pair)) c.gate.ensures.after j.table.law t.law in
    let all = job_stays j t s in record { part = all.0; gates = all.1.0; listed = all.1.1.0; counted = all.1.1.1 }

pub returns : goal.returns
returns c =
    record {
      answer = c.gate.ensures.answer;
      did = record { book = ap (λ d. book d c.args.self.now.width) c.gate.ensures.after; lists = λ u. refl };
      refused = unless_same c.gate.result (λ e. same_job _ _ e refl refl) c.gate.ensures.refused;
    }

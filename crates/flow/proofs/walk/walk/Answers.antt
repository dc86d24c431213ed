use Rattle.std.proofs.Common.{ℕ, length, subst}
use Rattle.cells.specs.Netlists.{netlist_of}
use Rattle.fitter.specs.Calls.{book_of_calls}
use Rattle.fitter.specs.History.{Handled}
use Rattle.fitter.specs.Mapping.{AnswersFor}
use Rattle.flow.specs.Walk.{walked}
use Rattle.flow.proofs.Telling.{mapped_tells}
use Rattle.flow.proofs.walk.walk.Goals as goal

pub returns : goal.returns
returns g c =
    let F = g.F.Family.delay c.args.family.now in
    let h = walked F.width (length c.args.arrivals.now) c.args.text.now in
    let handled : Handled h c.load.new.self = (
      c.retie.new.self,
      (
        (
          c.map.new.self,
          (
            (
              c.width.new.self,
              (
                (
                  c.output.new.self,
                  (
                    (
                      c.gate.new.self,
                      (
                        (
                          c.input-2.new.self,
                          (
                            (
                              c.input.new.self,
                              (
                                (c.new-job.result, (c.new-job.ensures, c.input.ensures.did)),
                                c.input-2.ensures.did,
                              ),
                            ),
                            c.gate.ensures.did,
                          ),
                        ),
                        c.output.ensures.did,
                      ),
                    ),
                    c.width.ensures.did,
                  ),
                ),
                c.map.ensures.did,
              ),
            ),
            c.retie.ensures.did,
          ),
        ),
        c.load.ensures.did,
      ),
    ) in
    record {
      answers = subst (λ (n : ℕ). AnswersFor F (book_of_calls h) n c.map-2.result (netlist_of c.map-2.new.cover)) c.map.auto.arrivals (c.map-2.ensures.law h handled);
      tells = mapped_tells F h c.load.new.self _ _ _ _ _ handled c.map-2.result c.map-2.ensures.mapped;
    }

use Rattle.script.proofs.Verbs.{no_retie, no_map}
use Rattle.script.proofs.parse.with_fields.Goals as goal

pub returns-in_err-gate-in-Retie : goal.returns-in_err-gate-in-Retie
returns-in_err-gate-in-Retie c =
    no_retie _ _ _ c.in-Retie.is c.from_residual-in_err-gate-in-Retie.ensures c.in_err-gate-in-Retie.ensures

pub returns-in_err-kind-in-Map : goal.returns-in_err-kind-in-Map
returns-in_err-kind-in-Map c =
    no_map _ _ _ c.in-Map.is c.from_residual-in_err-kind-in-Map.ensures (λ x f. c.in_err-kind-in-Map.ensures x (tt, f))

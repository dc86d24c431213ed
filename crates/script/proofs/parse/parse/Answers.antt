use Rattle.script.proofs.Verbs.{no_verb}
use Rattle.script.proofs.parse.parse.Goals as goal

pub returns-in_err-verb : goal.returns-in_err-verb
returns-in_err-verb c =
    no_verb _ _ c.split.result.1 c.split.ensures.word c.split.ensures.whole c.in_err-verb.ensures
    c.in_default.ensures _ c.from_residual.ensures

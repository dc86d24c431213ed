use Rattle.std.proofs.lemmas.Option.{MatchOption-at_some}
use Rattle.script.proofs.Splits.{no_first, no_second}
use Rattle.script.proofs.fields.Tuple2Field.read.Goals as goal

pub returns-in_err-first : goal.returns-in_err-first
returns-in_err-first g c =
    rw c.from_residual.ensures
    (λ x f e. no_first _ _ _ _ c.split.result.1 c.split.ensures.word c.split.ensures.whole
    (g.met.A.Word.one_word x.0 f.0) (c.in_err-first.ensures x.0 f.0) e)

pub returns-in_err-second : goal.returns-in_err-second
returns-in_err-second g c =
    rw c.from_residual-in_err-second.ensures
    (λ x f e. no_second _ _ _ _ _ c.split.ensures.word
    (MatchOption-at_some _ _ _ c.in_ok-rest.was c.split.ensures.whole) (g.met.A.Word.one_word x.0 f.0)
    (c.in_err-second.ensures x.1 f.1) e)

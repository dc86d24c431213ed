use Rattle.std.proofs.Common.{◌++◌, ◌∷◌, [], refl, ap, ◌∙◌, arith}
use Rattle.aiger.proofs.Steps.{newline_early, newline_first, closes_line}
use Rattle.aiger.proofs.line.Line.close.Goals.{in_default-via-in-Some+else-self-eq0, in_default-via-in_default}
use Rattle.aiger.proofs.line.Line.close.Goals as goal

pub returns-in-Some : goal.returns-in-Some
returns-in-Some c =
    let v = c.in-Some.number in
    closes_line c.args.self.now v c.in-Some.is _ (c.push.ensures.items ∙ ap (λ w. w.items ++ v ∷ []) c.take-numbers.ensures.value) _ (record { row = refl; start = refl; on = refl }) c.take-numbers.ensures.after refl (omega arith)

pub returns-in_default : goal.returns-in_default
returns-in_default c =
    elim c.in_default.branch [
      | in_default-via-in-Some+else-self-eq0 w ↦ newline_early c.args.self.now c.broken.result c.broken.ensures (omega arith)
      | in_default-via-in_default w ↦ newline_first c.args.self.now c.broken.result c.broken.ensures w.in_default.is
    ]

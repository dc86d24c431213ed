use Rattle.std.proofs.Common.{inl, inr, sym, refl, subst, arith}
use Rattle.std.proofs.lemmas.Result.{err_from_is_err_and}
use Rattle.aiger.specs.States.{Breaks}
use Rattle.aiger.proofs.Steps.{other, stops, grows, space_last, space_first, spaces}
use Rattle.aiger.proofs.line.Line.take.Goals.{in_default-via-in-32-Some+else-self-gt0, in_default-via-in-32+in_default, in_default-via-in_default+then-this-lt48, in_default-via-in_default+else-this-lt48+else-this-lt58}
use Rattle.aiger.proofs.line.Line.take.Goals as goal

pub returns-in_err-digit-in-48-to-57-default : goal.returns-in_err-digit-in-48-to-57-default
returns-in_err-digit-in-48-to-57-default c =
    let h = c.in_err-digit-in-48-to-57-default.ensures in
    let p = err_from_is_err_and c.from_residual.result c.from_residual.ensures.1 in
    rw (p.1, p.2) (stops c.args.self.now c.args.byte _ h.1 h.0)

pub returns-in_ok-digit-in-48-to-57-default : goal.returns-in_ok-digit-in-48-to-57-default
returns-in_ok-digit-in-48-to-57-default c =
    grows c.args.self.now c.args.byte c.in_ok-digit-in-48-to-57-default.field-0 _ c.in_ok-digit-in-48-to-57-default.ensures (record { row = refl; start = refl; on = refl }) refl refl refl

pub returns-in-32-Some : goal.returns-in-32-Some
returns-in-32-Some c =
    spaces c.args.self.now c.in-32-Some.number c.in-32-Some.is-1 _ c.push.ensures.items c.args.byte c.in-32-Some.is-0 _ (record { row = refl; start = refl; on = refl }) refl refl refl (omega arith)

pub returns-in_default : goal.returns-in_default
returns-in_default c =
    let l = c.args.self.now in
    let b = c.args.byte in
    let f = c.broken.result in
    let is = c.broken.ensures in
    elim c.in_default.branch [
      | in_default-via-in-32-Some+else-self-gt0 w ↦ subst (λ b. Breaks l b f) (sym w.in-32-Some.is-0) (space_last l f is (omega arith))
      | in_default-via-in-32+in_default w ↦ subst (λ b. Breaks l b f) (sym w.in_default.is-0) (space_first l f is w.in_default.is-1)
      | in_default-via-in_default+then-this-lt48 w ↦ other l f is b (inl (omega arith)) (λ e. omega arith) c.requires
      | in_default-via-in_default+else-this-lt48+else-this-lt58 w ↦ other l f is b (inr (omega arith)) (λ e. omega arith) c.requires
    ]

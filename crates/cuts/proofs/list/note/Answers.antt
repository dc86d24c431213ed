use Rattle.std.proofs.Common.{not, sym, ap, ◌∙◌, rules}
use Rattle.std.specs.List.{list_any}
use Rattle.arrayvec.proofs.ArrayVecLemmas.{filter-from_retain}
use Rattle.drawing.specs.Sets.{sub}
use Rattle.cuts.specs.Leaves.{leaves_of}
use Rattle.cuts.proofs.Noting.{noted_passed, noted_new}
use Rattle.cuts.proofs.list.note.Goals as goal

pub returns-then-dominated-clause-noted : goal.returns-then-dominated-clause-noted
returns-then-dominated-clause-noted c =
    noted_passed leaves_of c.args.rows.now.items c.args.cut
    (sym (ap (list_any (λ m. sub (leaves_of m) (leaves_of c.args.cut))) c.deref.ensures.0) ∙ sym c.dominated.ensures ∙ c.if-dominated.true)

pub returns-clause-noted : goal.returns-clause-noted
returns-clause-noted c =
    let left = filter-from_retain _ (λ m. not (sub (leaves_of c.args.cut) (leaves_of m))) _ (λ x b f' y called. search rules) _ _ c.retain.ensures.filtered in
    rw (c.push.ensures.items, left)
    (noted_new leaves_of c.args.rows.now.items c.args.cut
    (sym (ap (list_any (λ m. sub (leaves_of m) (leaves_of c.args.cut))) c.deref.ensures.0) ∙ sym c.dominated.ensures ∙ c.if-dominated.false))

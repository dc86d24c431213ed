use Rattle.std.proofs.Common.{◌≡◌, ◌+◌, ◌<◌, ◌≤◌, cond, length, Err, sym, ap, ◌∙◌, subst, add-zero, arith, rules}
use Rattle.std.proofs.lemmas.Result.{err_from_is_err_and}
use Rattle.fitter.specs.Jobs.{book_of, is_kept}
use Rattle.fitter.specs.Making.{Progress, MakingAll}
use Rattle.fitter.proofs.AtHand.{job_few}
use Rattle.fitter.proofs.Progress.{progress_start, progress_step, progress_below, progress_crowded, progress_done, made_small, inside_same, marked_same}
use Rattle.fitter.proofs.job.Job.make_missing.Goals as goal
use Rattle.fitter.proofs.job.Job.make_missing.Goals.{then-branch, else-branch}

pub loop-v-init : goal.loop-v-init
loop-v-init c = progress_start c.args.self.now

pub make_needed-requires : goal.make_needed-requires
make_needed-requires c =
    let i = c.args.self.now in
    let l = c.loop-v in
    let in-range : l.v < length (book_of i).drawing.nodes = subst (λ z. l.v < length z) c.nodes-v-end.ensures c.loop-v-test.true in
    record {
      inside = inside_same i l.self l.v l.made l.invariant in-range;
      marked = marked_same i l.self l.invariant.same c.args.marks.now c.requires;
      below = progress_below i l.self l.v l.made l.invariant;
    }

pub overflow_add-made : goal.overflow_add-made
overflow_add-made c =
    let i = c.args.self.now in
    let l = c.loop-v in
    let a : l.made ≤ l.v = omega (arith, l.invariant.made, made_small (book_of i) (is_kept i) l.v) in
    let b = ap length c.nodes-v-end.ensures in
    let d = job_few i in
    let e : l.made < 256 = omega arith in
    search rules

pub loop-v-preserved : goal.loop-v-preserved
loop-v-preserved c =
    let l = c.loop-v in
    let new = c.in_ok-make_needed.field-0 in
    let m : c.if-branch.made ≡ l.made + cond new 1 0 =
    elim c.if-branch.branch [
      | then-branch w ↦ w.made-is ∙ sym (ap (λ z. l.made + cond z 1 0) w.if-branch.true)
      | else-branch w ↦ w.made-is ∙ sym (ap (λ z. l.made + cond z 1 0) w.if-branch.false ∙ add-zero l.made)
    ] in
    progress_step c.args.self.now l.self c.make_needed.new.self l.v l.made _ new l.invariant c.in_ok-make_needed.ensures m

pub returns-in_err-make_needed : goal.returns-in_err-make_needed
returns-in_err-make_needed c =
    let l = c.loop-v in
    let p = err_from_is_err_and c.from_residual.result c.from_residual.ensures.1 in
    let e = c.in_err-make_needed.field-0.0 in
    let stop = progress_crowded c.args.self.now l.self c.make_needed.new.self l.v l.made e l.invariant c.in_err-make_needed.ensures in
    subst (λ r. MakingAll c.args.self.now r c.make_needed.new.self) (sym (p.1 ∙ ap Err p.2)) stop

pub returns : goal.returns
returns c =
    let i = c.args.self.now in
    let l = c.loop-v in
    let e : l.v ≡ length (book_of i).drawing.nodes = omega (arith, ap length c.nodes-v-end.ensures) in
    progress_done i l.self l.made (subst (λ z. Progress i z l.made l.self) e l.invariant)

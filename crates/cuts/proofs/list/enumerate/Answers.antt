use Rattle.std.proofs.Common.{◌≡◌, ℕ, true, leb, List, length, map, ap, ◌∙◌, subst, arith}
use Rattle.std.proofs.lemmas.Bool.{le-leb, lt-leb}
use Rattle.std.proofs.lemmas.List.{take_all}
use Rattle.arrayvec.specs.ArrayVec.{array_vec_len}
use Rattle.drawing.specs.Sets.{keep, union}
use Rattle.cuts.specs.Antichain.{add, survivors}
use Rattle.cuts.specs.Leaves.{leaves_of, sets_of}
use Rattle.cuts.proofs.Noting.{count_more}
use Rattle.cuts.proofs.Unions.{choice_noted, pair_noted, pair_passed}
use Rattle.cuts.proofs.list.enumerate.Goals as goal
use Rattle.cuts.proofs.list.enumerate.Goals.{in-Some, in_default}

pub loop-other-preserved : goal.loop-other-preserved
loop-other-preserved c =
    let short = λ (s : List ℕ). leb (length s) c.args.most in
    let start = sets_of c.loop-cut.rows.items in
    let rows = sets_of c.loop-other.rows.items in
    let a = leaves_of c.cut-item.result in
    let x = c.other-item.result in
    let inv = c.loop-other.invariant in
    elim c.match-join.branch [
      | in-Some w ↦
          (let e = w.in-Some.ensures in record {
            within = rw w.rows-is (omega (arith, w.note.ensures.more, inv.within));
            noted = rw w.rows-is
                (pair_noted leaves_of short c.args.right.now c.loop-other.other-index x c.loop-other-test.true c.other-item.is start rows a inv.noted
                _ (subst (λ z. leb (length z) c.args.most ≡ true) e.0 (le-leb _ _ e.1))
                (w.note.ensures.noted ∙ ap (add rows) e.0));
          })
      | in_default w ↦ record {
        within = rw w.rows-is (omega (arith, inv.within));
        noted = rw w.rows-is
            (pair_passed leaves_of short c.args.right.now c.loop-other.other-index x c.loop-other-test.true c.other-item.is start rows a inv.noted
            (lt-leb (length (union a (leaves_of x))) c.args.most w.in_default.ensures));
      }
    ]

pub loop-cut-preserved : goal.loop-cut-preserved
loop-cut-preserved c =
    let l = c.loop-cut in
    let right = c.args.right.now in
    let inv = c.loop-other.invariant in
    let short = λ (s : List ℕ). leb (length s) c.args.most in
    let all = take_all c.loop-other.other-index right (omega (arith, c.loop-other-test.false)) in
    record {
      within = count_more (array_vec_len l.rows) (array_vec_len c.loop-other.rows) l.cut-index (length right) l.invariant.within (omega (arith, inv.within, c.loop-other.auto.other-index-end));
      noted = choice_noted leaves_of short c.args.left.now l.cut-index c.cut-item.result c.loop-cut-test.true c.cut-item.is
          (sets_of right) (sets_of l.rows.items) _ l.invariant.noted
          (inv.noted ∙ ap (λ z. survivors (sets_of l.rows.items) (keep short (map (union (leaves_of c.cut-item.result)) (sets_of z)))) all);
    }

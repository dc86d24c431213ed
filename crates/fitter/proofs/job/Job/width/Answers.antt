use Rattle.std.proofs.Common.{◌≡◌, true, false, eqb, sym, ap, ◌∙◌, arith}
use Rattle.drawing.specs.Tables.{drawing_of}
use Rattle.family.specs.Supplied.{is_width}
use Rattle.fitter.specs.Book.{book}
use Rattle.std.proofs.lemmas.Bool.{and_from, le-leb, ne_eqb, cond-true, not_from_false}
use Rattle.fitter.proofs.Stays.{nothing_kept}
use Rattle.fitter.proofs.job.Job.width.Goals as goal

pub invariant_of-self : goal.invariant_of-self
invariant_of-self c =
    let none = nothing_kept _ c.clear.ensures in record { part = and_from _ _ (le-leb 2 c.args.width (omega arith)) (le-leb c.args.width 5 (omega arith)); gates = (λ v h. absurd (none v h)); listed = (λ v h s. absurd (none v h)); counted = (λ v h. absurd (none v h)) }

pub returns-then-width-self : goal.returns-then-width-self
returns-then-width-self c =
    let j = c.args.self.now in
    let w = c.args.width in
    let ok : is_width w ≡ true = and_from _ _ (le-leb 2 w (omega arith)) (le-leb w 5 (omega arith)) in
    let ne : eqb w j.width ≡ false = ne_eqb w j.width c.if-width-self.true in
    record {
      answer = sym (cond-true _ _ _ ok);
      did = record {
        book = ap (λ z. book (drawing_of j.table) z) (sym (cond-true _ w j.width ok));
        lists = λ u. c.clear.ensures u ∙ sym (cond-true _ _ _ (and_from _ _ ok (not_from_false _ ne)));
      };
      refused = tt;
    }

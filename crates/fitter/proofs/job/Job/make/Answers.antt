use Rattle.std.proofs.Common.{◌≡◌, ap, ◌∙◌, subst}
use Rattle.std.specs.Prelude.{Some}
use Rattle.std.specs.Result.{result_ok}
use Rattle.cuts.specs.Lists.{MadeIn}
use Rattle.fitter.specs.Jobs.{book_of}
use Rattle.fitter.proofs.AtHand.{keep_gates, keep_listed, keep_counted}
use Rattle.fitter.proofs.job.Job.make.Goals as goal

pub invariant_of-self : goal.invariant_of-self
invariant_of-self c =
    let j = c.args.self.now in
    let k = c.keep.new.self in
    let e = c.keep.ensures in
    let list = c.in_ok-list.list in
    let is : c.list_of.result ≡ Some list = c.ok_or.ensures.ok_part ∙ ap result_ok c.in_ok-list.was in
    let m = (subst (MadeIn (book_of j).drawing.nodes j.width c.args.v) is c.list_of.ensures).1 in record {
      part = j.part;
      gates = keep_gates j k c.args.v list.now c.requires.gate m e.held e.row e.others;
      listed = keep_listed j k c.args.v list.now c.requires.gate m e.held e.row e.others;
      counted = keep_counted j k c.args.v list.now c.requires.gate m e.held e.row e.others;
    }

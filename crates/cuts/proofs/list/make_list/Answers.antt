use Rattle.cuts.proofs.Choosing.{made_from}
use Rattle.cuts.proofs.list.make_list.Goals as goal

pub returns : goal.returns
returns c = rw c.ok.ensures.value (made_from c.args.nodes.now c.args.width c.args.gate c.in_ok-list.list.now c.in_ok-list.ensures c.try_from.result c.try_from.ensures)

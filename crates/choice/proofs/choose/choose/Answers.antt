use Rattle.std.proofs.Common.{length}
use Rattle.choice.proofs.Choosing.{rest_within}
use Rattle.choice.proofs.choose.choose.Goals as goal

pub weigh-next-requires : goal.weigh-next-requires
weigh-next-requires g c = rest_within (length c.args.arrivals.now.table.now) c.args.list.now c.loop-cut.cut-index c.cut-item.result c.requires.within c.loop-cut-test.true c.cut-item.is

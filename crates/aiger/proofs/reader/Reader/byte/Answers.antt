use Rattle.aiger.proofs.Bytes.{past_end}
use Rattle.aiger.proofs.reader.Reader.byte.Goals as goal

pub returns-in-End-default : goal.returns-in-End-default
returns-in-End-default c = past_end c.args.self.now c.args.byte c.broken.result c.in-End-default.is-0 c.broken.ensures

use Rattle.aiger.proofs.Bytes.{stops_early, stops_well}
use Rattle.aiger.proofs.reader.Reader.finish.Goals as goal

pub returns-in-End : goal.returns-in-End
returns-in-End c = stops_well c.args.self c.in-End.is

pub returns-in_default : goal.returns-in_default
returns-in_default c = stops_early c.args.self c.broken.result c.requires c.in_default.not-End c.broken.ensures

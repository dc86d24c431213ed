use Rattle.std.proofs.Common.{length}
use Rattle.aiger.proofs.writer.+put_line.Given as goal

abbrev pub decreases-put_line : goal.decreases-put_line
decreases-put_line l = length l.numbers.now

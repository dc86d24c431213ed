use Rattle.std.proofs.Common.{ap}
use Rattle.aiger.specs.Text.{word}
use Rattle.aiger.specs.Reads.{read, read_word}
use Rattle.aiger.proofs.reader.Reader.new.Goals as goal

pub returns : goal.returns
unfolding read
returns c =
    let zero = c.first.ensures.1 in
    record { sound = c.first.ensures.0; start = (zero, λ bs. ap (λ k. read_word word k bs) zero) }

use Rattle.std.proofs.Common.{◌∙◌}
use Rattle.cells.proofs.Words.{bit_and_lem}
use Rattle.cells.proofs.table.own_word.Goals as goal

pub returns-in-Gate : goal.returns-in-Gate
returns-in-Gate c = λ m h.
    let a = c.literal_word.ensures m h in
    let b = c.literal_word-in-Gate.ensures m h in
    bit_and_lem c.literal_word.result c.literal_word-in-Gate.result m ∙ (cc)

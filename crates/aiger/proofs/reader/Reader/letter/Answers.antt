use Rattle.aiger.proofs.Bytes.{letter_breaks, letter_steps, last_letter}
use Rattle.aiger.proofs.reader.Reader.letter.Goals as goal

pub returns-then-byte-letters : goal.returns-then-byte-letters
returns-then-byte-letters c = letter_breaks c.args.self.now c.args.letters c.requires.0 c.requires.1 c.args.byte c.broken.result c.broken.ensures c.if-byte-letters.true

pub returns-then-letters-lt3 : goal.returns-then-letters-lt3
returns-then-letters-lt3 c = letter_steps c.args.self.now c.args.letters c.requires.0 c.requires.1 c.args.byte c.if-byte-letters.false c.if-letters-lt3.true

pub returns-else-letters-lt3 : goal.returns-else-letters-lt3
returns-else-letters-lt3 c = last_letter c.args.self.now c.args.letters c.requires.0 c.requires.1 c.args.byte c.if-byte-letters.false c.if-letters-lt3.false

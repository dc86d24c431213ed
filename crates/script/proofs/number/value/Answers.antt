use Rattle.std.proofs.Common.{◌+◌, ◌*◌, drop, sym, refl, ap, ◌∙◌}
use Rattle.std.specs.Char.{is_ascii_digit}
use Rattle.std.proofs.lemmas.List.{at_drop_more, at_drop_all}
use Rattle.script.proofs.Scans.{every_lost, every_next, every_all}
use Rattle.script.proofs.Numbers.{read_on, no_number, too_large, read_all}
use Rattle.script.proofs.number.value.Goals as goal

pub returns-then-not-is_ascii_digit : goal.returns-then-not-is_ascii_digit
returns-then-not-is_ascii_digit c x l e =
    no_number _ x l
    (every_lost is_ascii_digit _ c.loop-byte.byte-index _ 0 c.loop-byte-test.true refl c.loop-byte.invariant.0
    (sym c.if-not-is_ascii_digit.ensures.value))
    e

pub returns-then-n-gt-MOST : goal.returns-then-n-gt-MOST
returns-then-n-gt-MOST c x l e =
    too_large _ (drop (c.loop-byte.byte-index + 1) c.args.digits.now) _ x
    (ap (λ d. read_on (c.loop-byte.n * 10 + d) (drop (c.loop-byte.byte-index + 1) c.args.digits.now)) c.from.ensures
    ∙ sym (at_drop_more (read_on c.loop-byte.n) _ c.loop-byte.byte-index 0 c.loop-byte-test.true) ∙ c.loop-byte.invariant.1)
    c.if-n-gt-MOST.true l e

pub loop-byte-preserved : goal.loop-byte-preserved
loop-byte-preserved c = (
  every_next is_ascii_digit _ c.loop-byte.byte-index _ 0 c.loop-byte-test.true refl c.loop-byte.invariant.0
      (sym c.if-not-is_ascii_digit.ensures.value),
  ap (λ d. read_on (c.loop-byte.n * 10 + d) (drop (c.loop-byte.byte-index + 1) c.args.digits.now)) c.from.ensures
      ∙ sym (at_drop_more (read_on c.loop-byte.n) _ c.loop-byte.byte-index 0 c.loop-byte-test.true) ∙ c.loop-byte.invariant.1,
  c.if-n-gt-MOST.false,
)

pub returns : goal.returns
returns c = (
  c.loop-byte.invariant.2,
  read_all _ _ c.requires.some c.requires.plain
      (sym (every_all is_ascii_digit _ c.loop-byte.byte-index c.loop-byte.invariant.0 c.loop-byte-test.false))
      (sym (sym (at_drop_all (read_on c.loop-byte.n) _ c.loop-byte.byte-index c.loop-byte-test.false) ∙ c.loop-byte.invariant.1))
      c.loop-byte.invariant.2,
)

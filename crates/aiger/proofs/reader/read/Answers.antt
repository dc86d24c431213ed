use Rattle.std.proofs.Common.{◌≡◌, ℕ, ◌+◌, ◌<◌, ◌≤◌, List, [], length, drop, Ok, sym, ap, ◌∙◌, arith}
use Rattle.std.proofs.lemmas.List.{at_drop_more, at_drop_all}
use Rattle.std.proofs.lemmas.Result.{err_from_is_err_and}
use Rattle.aiger.specs.declared.reader.Reader.{Reader}
use Rattle.aiger.specs.Text.{text}
use Rattle.aiger.specs.Reads.{read, Outcome}
use Rattle.aiger.specs.States.{go_on, drawn}
use Rattle.aiger.proofs.Accepted.{accepted}
use Rattle.aiger.proofs.reader.read.Goals as goal

pub loop-byte-preserved : goal.loop-byte-preserved
loop-byte-preserved c =
    let r = c.loop-byte.reader in
    let xs = c.args.text.now in
    let i = c.loop-byte.byte-index in
    let lt : i < length xs = omega arith in
    let s = c.in_ok-byte.ensures in
    let q = c.pass.ensures in
    let w = s.reaches c.pass.new.self q in
    (w.sound, omega (arith, s.on, q.pos), sym (w.same (drop (i + 1) xs)) ∙ sym (at_drop_more (go_on r) xs i 0 lt) ∙ c.loop-byte.invariant.2)

pub returns-in_err-byte : goal.returns-in_err-byte
returns-in_err-byte c =
    let r = c.loop-byte.reader in
    let xs = c.args.text.now in
    let i = c.loop-byte.byte-index in
    let lt : i < length xs = omega arith in
    let s = c.in_err-byte.ensures in
    let p = err_from_is_err_and c.from_residual.result c.from_residual.ensures.1 in
    rw (p.1, p.2) (record { reads = sym c.loop-byte.invariant.2 ∙ at_drop_more (go_on r) xs i 0 lt ∙ s (drop (i + 1) xs); back = tt })

-- the reader stands at the end of the text
at-end : (r : Reader) (xs : List ℕ) (i : ℕ) (o : Outcome) → length xs ≤ i → go_on r (drop i xs) ≡ read xs → go_on r [] ≡ o → read xs ≡ o
at-end r xs i o l e f = sym e ∙ at_drop_all (go_on r) xs i l ∙ f

pub returns-in_err-draft : goal.returns-in_err-draft
returns-in_err-draft c =
    let p = err_from_is_err_and c.from_residual-in_err-draft.result c.from_residual-in_err-draft.ensures.1 in
    rw (p.1, p.2) (record { reads = at-end c.loop-byte.reader _ c.loop-byte.byte-index _ (omega arith) c.loop-byte.invariant.2 c.in_err-draft.ensures; back = tt })

pub table-requires : goal.table-requires
table-requires c =
    let w = at-end c.loop-byte.reader c.args.text.now c.loop-byte.byte-index _ (omega arith) c.loop-byte.invariant.2 c.in_ok-draft.ensures in
    (accepted c.args.text.now (drawn c.in_ok-draft.draft) w).is_lawful

pub returns : goal.returns
returns c =
    let w = at-end c.loop-byte.reader c.args.text.now c.loop-byte.byte-index _ (omega arith) c.loop-byte.invariant.2 c.in_ok-draft.ensures in
    let e = sym c.table.ensures in
    record { reads = w ∙ ap Ok e; back = (accepted c.args.text.now (drawn c.in_ok-draft.draft) w).written ∙ ap text e }

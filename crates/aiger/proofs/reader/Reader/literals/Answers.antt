use Rattle.std.proofs.Common.{sym, subst}
use Rattle.aiger.specs.States.{Closes, drafted, Puts}
use Rattle.aiger.proofs.Bytes.{line_passes}
use Rattle.aiger.proofs.reader.Reader.literals.Goals as goal

pub returns : goal.returns
returns c =
    let r = c.args.self.now in
    let k = c.args.kind in
    let ns = c.deref.result.now in
    let m = c.close.new.self in
    let g = subst (λ ns. Closes r.line ns m) (sym c.deref.ensures.0) c.in_ok-literals.ensures in
    let puts = subst (λ o. Puts k (drafted r.draft) ns o (drafted c.put.new.self)) c.in_ok-ok_or.ensures.ok_part c.put.ensures.puts in
    line_passes r ns m g k c.put.new.self c.next.new.self c.requires.0 puts.0 puts.1 c.next.ensures

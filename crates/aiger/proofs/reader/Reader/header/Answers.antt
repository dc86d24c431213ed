use Rattle.std.proofs.Common.{sym, subst}
use Rattle.aiger.specs.States.{Closes}
use Rattle.aiger.proofs.Bytes.{heading_passes}
use Rattle.aiger.proofs.reader.Reader.header.Goals as goal

pub returns : goal.returns
returns c =
    let r = c.args.self.now in
    let ns = c.deref.result.now in
    let m = c.close.new.self in
    let g = subst (λ ns. Closes r.line ns m) (sym c.deref.ensures.0) c.in_ok-figures.ensures in
    let a = rw c.in_ok-header.ensures.ok_part at c.of.ensures in
    heading_passes r ns m g c.in_ok-header.header c.new-self.result c.next.new.self c.requires.0 c.requires.1.row a c.new-self.ensures c.next.ensures

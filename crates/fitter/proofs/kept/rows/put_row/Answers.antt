use Rattle.std.proofs.Common.{arith}
use Rattle.fitter.proofs.FlatRows.{row_put, row_kept}
use Rattle.fitter.proofs.kept.rows.put_row.Goals as goal

pub returns : goal.returns
returns c =
    let a = c.args in
    let put = c.copy_from_slice in
    record {
      here = row_put a.flat.now a.list.now put.new.self a.v _ _ c.requires.short put.ensures.after (omega arith) (omega arith) (omega arith);
      others = row_kept a.flat.now a.list.now put.new.self a.v _ _ c.requires.short put.ensures.after (omega arith) (omega arith) (omega arith);
    }

use Rattle.std.proofs.Common.{◌≡◌, ◌<◌, ◌≤◌, min, take, sym, ap, ◌∙◌, ⊎_elim, arith}
use Rattle.std.proofs.lemmas.List.{take_all, length-take}
use Rattle.std.proofs.lemmas.Bool.{cases_lt}
use Rattle.drawing.specs.Drawing.{most_leaves}
use Rattle.cells.proofs.cell.Cell.leaves.Goals as goal

pub returns : goal.returns
returns c =
    let s = c.args.self.now in
    let r = c.min-count.result in
    let e : r ≡ min s.count most_leaves = c.min-count.ensures in
    record {
      is = ⊎_elim
          (λ (l : s.count < most_leaves). let q : r ≡ s.count = omega arith in ap (λ k. take k s.leaves) q)
          (λ (l : most_leaves ≤ s.count). take_all r s.leaves (omega arith) ∙ sym (take_all s.count s.leaves (omega arith)))
          (cases_lt s.count most_leaves);
      few = omega (arith, length-take r s.leaves);
    }

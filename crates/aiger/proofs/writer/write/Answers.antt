use Rattle.std.proofs.Common.{ℕ, ◌<◌, ◌≤◌, ◌++◌, length, drop, refl, sym, ap, ◌∙◌, subst, rules, arith}
use Rattle.std.proofs.lemmas.List.{length-take-le}
use Rattle.drawing.specs.Tables.{drawing_of}
use Rattle.pen.proofs.Wrote.{wrote_at, wrote_front, wrote_room}
use Rattle.aiger.proofs.Sizes.{short_text}
use Rattle.aiger.proofs.writer.write.Goals as goal

pub slice_bounds-page-end : goal.slice_bounds-page-end
slice_bounds-page-end c =
    let few = short_text (drawing_of c.args.table.now) c.args.table.now.law in
    wrote_room c.put_drawing.ensures c.new-pen.ensures.start c.new-pen.ensures.holds few (omega arith) (search rules)

pub slice_bounds-copy_from_slice-end-3 : goal.slice_bounds-copy_from_slice-end-3
slice_bounds-copy_from_slice-end-3 c =
    let few = short_text (drawing_of c.args.table.now) c.args.table.now.law in
    wrote_at c.put_drawing.ensures c.new-pen.ensures.start (omega arith) ∙ ap length (sym (wrote_front c.put_drawing.ensures c.new-pen.ensures.start c.new-pen.ensures.holds few (omega arith) (search rules)))

pub copy_from_slice-requires : goal.copy_from_slice-requires
copy_from_slice-requires c =
    let few = short_text (drawing_of c.args.table.now) c.args.table.now.law in
    length-take-le _ c.args.buffer.now c.if-buffer-length.false ∙ wrote_at c.put_drawing.ensures c.new-pen.ensures.start (omega arith) ∙ ap length (sym (wrote_front c.put_drawing.ensures c.new-pen.ensures.start c.new-pen.ensures.holds few (omega arith) (search rules)))

pub returns-then-buffer-length : goal.returns-then-buffer-length
returns-then-buffer-length c =
    let few = short_text (drawing_of c.args.table.now) c.args.table.now.law in
    let n = wrote_at c.put_drawing.ensures c.new-pen.ensures.start (omega arith) in
    (subst (λ (k : ℕ). length c.args.buffer.now < k) n c.if-buffer-length.true, refl, refl)

pub returns : goal.returns
returns c =
    let few = short_text (drawing_of c.args.table.now) c.args.table.now.law in
    let n = wrote_at c.put_drawing.ensures c.new-pen.ensures.start (omega arith) in
    let text = c.copy_from_slice.ensures.after ∙ wrote_front c.put_drawing.ensures c.new-pen.ensures.start c.new-pen.ensures.holds few (omega arith) (search rules) in
    (subst (λ (k : ℕ). k ≤ length c.args.buffer.now) n c.if-buffer-length.false, n, ap (λ ts. ts ++ drop c.put_drawing.new.pen.at c.args.buffer.now) text)

use Rattle.std.proofs.Common.{◌≡◌, ℕ, ltb, ◌++◌, map, length, get_or, drop, ap, ◌∙◌, arith}
use Rattle.std.proofs.lemmas.List.{take_all}
use Rattle.std.proofs.lemmas.Bool.{ltb-true}
use Rattle.drawing.specs.Drawing.{node_of, most_nodes}
use Rattle.drawing.proofs.Members.{every_at}
use Rattle.cells.specs.Netlist.{output_value}
use Rattle.cells.proofs.Buffers.{put_map}
use Rattle.cells.proofs.cover.evaluate.write_outputs.Goals as goal

pub literal-requires : goal.literal-requires
literal-requires c =
    ltb-true _ most_nodes (every_at (λ l. ltb (node_of l) most_nodes) c.args.outputs.now c.loop-k.k 0 c.requires.there (omega arith))

pub loop-k-preserved : goal.loop-k-preserved
loop-k-preserved c =
    put_map (output_value (λ n. get_or c.args.values.now.bits n 0)) c.args.outputs.now c.args.out.now c.loop-k.out c.loop-k.k c.literal.result
    (omega arith) (omega arith) c.literal.ensures c.loop-k.invariant

pub returns : goal.returns
returns c =
    let os = c.args.outputs.now in
    let k = c.loop-k.k in
    let f : ℕ → ℕ = output_value (λ n. get_or c.args.values.now.bits n 0) in
    let e : k ≡ length os = omega arith in
    c.loop-k.invariant ∙ ap (λ xs. map f xs ++ drop k c.args.out.now) (take_all k os (omega arith)) ∙ ap (λ n. map f os ++ drop n c.args.out.now) e

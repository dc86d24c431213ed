use Rattle.std.proofs.Common.{◌≡◌, ℕ, ◌+◌, ◌<◌, true, List, length, get_or, take, set, None, sym, ap, ◌∙◌, subst, arith}
use Rattle.std.proofs.lemmas.List.{length-set, length-take-le, length-map, take-map, map-set, get_or-map, get_or-take, take_all}
use Rattle.std.proofs.lemmas.Bool.{and_parts}
use Rattle.drawing.specs.declared.node.Node.{Node}
use Rattle.drawing.specs.declared.node.Node.TheVariants.{Constant}
use Rattle.drawing.specs.Sets.{below}
use Rattle.drawing.specs.Column.{column}
use Rattle.drawing.specs.Drawing.{fanins, sound}
use Rattle.drawing.specs.Values.{valuing, lookup}
use Rattle.drawing.proofs.Sound.{sound_at_lem}
use Rattle.drawing.proofs.ColumnLaws.{column_more, column_take}
use Rattle.cells.specs.Truth.{bit, coning, in_row, leaf_bits, pinned, unset}
use Rattle.cells.proofs.table.Cone.word.Goals as goal
use Rattle.cells.proofs.table.Cone.word.Goals.{in-Some, in-None}

pub own_word-requires : goal.own_word-requires
own_word-requires c =
    let n = c.loop-n.n in
    let nodes : List Node = c.as_slice.result.now in
    let there = c.args.self.now.there in
    let long = ap length c.as_slice.ensures.value in
    let up = length-take-le (c.args.self.now.root + 1) nodes (omega arith) in
    let right : sound nodes ≡ true = ap sound c.as_slice.ensures.value ∙ c.as_slice.ensures.sound in
    let e : length (take n c.loop-n.words) ≡ n = length-take-le n c.loop-n.words (omega arith) in
    let s = sound_at_lem nodes n right (omega arith) in
    subst (λ (k : ℕ). below k (fanins (get_or (take (c.args.self.now.root + 1) nodes) n Constant)) ≡ true) (sym e)
    (subst (λ (x : Node). below n (fanins x) ≡ true) (sym (get_or-take (c.args.self.now.root + 1) nodes n Constant (omega arith))) (and_parts _ _ s).1)

pub loop-n-preserved : goal.loop-n-preserved
loop-n-preserved c =
    let n = c.loop-n.n in
    let nodes : List Node = take (c.args.self.now.root + 1) c.as_slice.result.now in
    let ls : List ℕ = c.args.self.now.leaves.now in
    let words = c.loop-n.words in
    let w = c.match-pins-n.words in
    let there = c.args.self.now.there in
    let up = ap length c.as_slice.ensures.value in
    let reach = length-take-le (c.args.self.now.root + 1) c.as_slice.result.now (omega arith) in
    let node = get_or nodes n Constant in (
      length-set _ _ _ ∙ c.loop-n.invariant.0,
      λ m h.
          let f : ℕ → ℕ = λ x. bit x m in
          let below = in_row m (take n words) in
          let own : ℕ = valuing unset below node in
          let long : n ≡ length below = sym (length-map (take n words) f ∙ length-take-le n words (omega arith)) in
          let pin : bit w m ≡ pinned (get_or c.pins-pins.result n None) m own =
          elim c.match-pins-n.branch [
            | in-Some x ↦ ap f x.words-is ∙ sym (ap (λ o. pinned o m own) x.in-Some.is)
            | in-None x ↦ ap f x.words-is ∙ x.own_word.ensures m h ∙ sym (ap (λ o. pinned o m own) x.in-None.is)
          ] in
          let here : bit w m ≡ coning (leaf_bits ls m) below node =
          pin ∙ c.pins-pins.ensures.hides m n own h ∙ ap (λ k. lookup (leaf_bits ls m) k own) long in
          sym (take-map f (n + 1) (set words n w))
          ∙ ap (take (n + 1)) (map-set f words n w)
          ∙ column_more (coning (leaf_bits ls m)) nodes (in_row m words) n Constant (bit w m) (omega arith) (omega (arith, length-map words f))
          (take-map f n words ∙ c.loop-n.invariant.1 m h) (here ∙ ap (λ xs. coning (leaf_bits ls m) xs node) (sym (take-map f n words))),
    )

pub returns : goal.returns
returns c = λ m h.
    let n = c.loop-n.n in
    let nodes : List Node = c.as_slice.result.now in
    let words = c.loop-n.words in
    let root = c.args.self.now.root in
    let step = coning (leaf_bits c.args.self.now.leaves.now m) in
    let there = c.args.self.now.there in
    let long = ap length c.as_slice.ensures.value in
    let up = length-take-le (root + 1) nodes (omega arith) in
    let r : root < n = omega arith in
    let l : root < length (take n words) = omega (arith, length-take-le n words (omega arith)) in
    ap (λ x. bit x m) (sym (get_or-take n words root 0 r))
    ∙ sym (get_or-map (λ x. bit x m) (take n words) root 0 0 l)
    ∙ ap (λ vs. get_or vs root 0) (c.loop-n.invariant.1 m h ∙ ap (column step) (take_all n (take (root + 1) nodes) (omega arith)) ∙ column_take step nodes (root + 1) (omega arith))
    ∙ get_or-take (root + 1) (column step nodes) root 0 (omega arith)
    ∙ ap (λ xs. get_or (column step xs) root 0) c.as_slice.ensures.value

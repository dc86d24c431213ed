use Rattle.std.proofs.Common.{◌≡◌, ℕ, ◌<◌, List, [], ◌∷◌, ◌++◌, length, take, Bor, sym, refl, ap, ◌∙◌, subst, arith}
use Rattle.std.proofs.lemmas.List.{length-set, length_push, length-take-le, take_all, take_more}
use Rattle.std.proofs.lemmas.Slice.Zip.{zip_turn, zip_end}
use Rattle.drawing.specs.Drawing.{most_nodes}
use Rattle.cells.specs.Limits.{table_bits}
use Rattle.cells.specs.Truth.{bit}
use Rattle.cells.proofs.Pins.{Pinned, no_pins, pin_more}
use Rattle.cells.proofs.Words.{leaf_words, leaf_word_bit}
use Rattle.cells.proofs.table.Cone.pins.Goals as goal

pub loop-leaf-init : goal.loop-leaf-init
loop-leaf-init c = (refl, no_pins most_nodes)

pub loop-leaf-preserved : goal.loop-leaf-preserved
loop-leaf-preserved c =
    let ls : List ℕ = c.args.self.now.leaves.now in
    let l : ℕ = c.in-Some.leaf.now in
    let w : ℕ = c.in-Some.word.now in
    let k : ℕ = length c.loop-leaf.yielded in
    let p : Bor ℕ × Bor ℕ = (c.in-Some.leaf, c.in-Some.word) in
    let words : c.into_iter-leaf-iterator.result.b.rest.now ≡ leaf_words = ap (λ z. z.b.rest.now) c.into_iter-leaf-iterator.ensures.into_iter_gives ∙ c.zip-leaf-items.ensures.second.0 in
    let t = zip_turn ls leaf_words c.loop-leaf.yielded c.into_iter-leaf-iterator.result c.loop-leaf.leaf-iterator c.next.new.self c.next.result (cc) words
    c.loop-leaf.yielded_by p c.in-Some.is c.next.ensures.steps in
    let e : take (length (c.loop-leaf.yielded ++ p ∷ [])) ls ≡ take k ls ++ l ∷ [] =
    ap (λ j. take j ls) (length_push c.loop-leaf.yielded p) ∙ take_more ls k 0 t.0 ∙ ap (λ x. take k ls ++ x ∷ []) (sym (t.2 0)) in
    let long : length (take k ls) ≡ k = length-take-le k ls (omega arith) in
    let b : (m : ℕ) → m < table_bits → bit w m ≡ bit m (length (take k ls)) = λ m h.
    ap (λ x. bit x m) (t.3 0) ∙ leaf_word_bit k m (omega arith) h ∙ ap (bit m) (sym long) in
    let r = length-set c.loop-leaf.pins l c.or.result in
    let there : l < length c.loop-leaf.pins = omega arith in
    (r ∙ c.loop-leaf.invariant.0, subst (Pinned _) (sym e) (pin_more c.loop-leaf.pins (take k ls) l w c.or.result c.loop-leaf.invariant.1 there c.or.ensures b))

pub returns : goal.returns
returns c =
    let ls : List ℕ = c.args.self.now.leaves.now in
    let k : ℕ = length c.loop-leaf.yielded in
    let words : c.into_iter-leaf-iterator.result.b.rest.now ≡ leaf_words = ap (λ z. z.b.rest.now) c.into_iter-leaf-iterator.ensures.into_iter_gives ∙ c.zip-leaf-items.ensures.second.0 in
    let z = zip_end ls leaf_words c.loop-leaf.yielded c.into_iter-leaf-iterator.result c.loop-leaf.leaf-iterator c.next.new.self c.next.result (cc) words
    c.loop-leaf.yielded_by c.in-None.is c.next.ensures.steps in
    record { long = c.loop-leaf.invariant.0; hides = subst (Pinned c.loop-leaf.pins) (take_all k ls (omega arith)) c.loop-leaf.invariant.1 }

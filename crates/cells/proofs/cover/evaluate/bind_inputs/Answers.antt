use Rattle.std.proofs.Common.{◌≡◌, ℕ, ◌+◌, List, ◌∷◌, [], ◌++◌, map, length, take, Bor, sym, subst, arith}
use Rattle.std.proofs.lemmas.List.{length_push, take_all}
use Rattle.std.proofs.lemmas.Slice.Zip.{zip_turn, zip_end}
use Rattle.drawing.specs.Values.{bound}
use Rattle.cells.specs.Netlist.{plain}
use Rattle.cells.specs.Evaluate.{Holds}
use Rattle.cells.proofs.Settle.{input_more}
use Rattle.cells.proofs.cover.evaluate.bind_inputs.Goals as goal

pub loop-number-preserved : goal.loop-number-preserved
loop-number-preserved c =
    let is : List ℕ = c.args.inputs.now in
    let row : List ℕ = c.args.row.now in
    let k : ℕ = length c.loop-number.yielded in
    let p : Bor ℕ × Bor ℕ = (c.in-Some.number, c.in-Some.value) in
    let t = zip_turn is row c.loop-number.yielded c.into_iter-number-iterator.result c.loop-number.number-iterator c.next.new.self c.next.result (cc) (cc)
    c.loop-number.yielded_by p c.in-Some.is c.next.ensures.steps in
    let n : length (c.loop-number.yielded ++ p ∷ []) ≡ k + 1 = length_push c.loop-number.yielded p in
    subst (λ (j : ℕ). Holds c.set.new.self.bits (bound (map plain (take j is)) (take j row))) (sym n)
    (input_more c.set.new.self.bits is row k c.in-Some.number.now c.in-Some.value.now c.requires.rising t.0 t.1 (t.2 0) (t.3 0)
    (c.set.ensures (bound (map plain (take k is)) (take k row)) c.loop-number.invariant))

pub returns : goal.returns
returns c =
    let is : List ℕ = c.args.inputs.now in
    let row : List ℕ = c.args.row.now in
    let k : ℕ = length c.loop-number.yielded in
    let z = zip_end is row c.loop-number.yielded c.into_iter-number-iterator.result c.loop-number.number-iterator c.next.new.self c.next.result (cc) (cc)
    c.loop-number.yielded_by c.in-None.is c.next.ensures.steps in
    let a : take k is ≡ is = take_all k is (omega arith) in
    let b : take k row ≡ row = take_all k row (omega arith) in
    subst (λ (xs : List ℕ). Holds c.loop-number.values.bits (bound (map plain xs) row)) a
    (subst (λ (xs : List ℕ). Holds c.loop-number.values.bits (bound (map plain (take k is)) xs)) b c.loop-number.invariant)

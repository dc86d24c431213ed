use Rattle.std.proofs.Common.{◌-◌, ◌<◌, length, get_or, take, drop, rules}
use Rattle.std.proofs.lemmas.Cmp.{ranked}
use Rattle.cuts.proofs.Merge.{first_rest, step_alone, step_less, step_both, step_greater}
use Rattle.cuts.proofs.cut.ops.lowest.Goals as goal
use Rattle.cuts.proofs.cut.ops.lowest.Goals.{in-Less, in-Equal, in-Greater}

pub returns-in-len1-up-empty : goal.returns-in-len1-up-empty
returns-in-len1-up-empty c =
    let a = c.args.a.now in
    let b = c.args.b.now in
    let some : 0 < length a = search rules in
    let none : length b < 1 = search rules in
    step_alone a b c.requires.0 c.requires.1 (get_or a 0 0) _ (first_rest a some) none

pub returns-after-cmp : goal.returns-after-cmp
returns-after-cmp c =
    let a = c.args.a.now in
    let b = c.args.b.now in
    let some : 0 < length a = search rules in
    let others : 0 < length b = search rules in
    let x = get_or a 0 0 in
    let y = get_or b 0 0 in
    let xs = take (length a - 1) (drop 1 a) in
    let ys = take (length b - 1) (drop 1 b) in
    let r = ranked x y c.cmp.result c.cmp.ensures in
    elim c.match-cmp.branch [
      | in-Less w ↦ rw w.result-is (step_less a b c.requires.0 c.requires.1 x xs (first_rest a some) y ys (first_rest b others) (rw w.in-Less.is at r))
      | in-Equal w ↦ rw w.result-is (step_both a b c.requires.0 c.requires.1 x xs (first_rest a some) y ys (first_rest b others) (rw w.in-Equal.is at r))
      | in-Greater w ↦ rw w.result-is (step_greater a b c.requires.0 c.requires.1 x xs (first_rest a some) y ys (first_rest b others) (rw w.in-Greater.is at r))
    ]

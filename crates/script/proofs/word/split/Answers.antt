use Rattle.std.proofs.Common.{◌≡◌, ℕ, ◌<◌, length, get_or, sym, ap, ◌∙◌, arith, rules}
use Rattle.std.proofs.lemmas.List.{take_all}
use Rattle.script.specs.Names.{is_word}
use Rattle.script.proofs.Splits.{words_before}
use Rattle.script.proofs.word.split.Goals as goal

pub returns-in-Some-clause-word : goal.returns-in-Some-clause-word
returns-in-Some-clause-word c =
    let before : (k : ℕ) → k < c.in-Some.space → get_or c.args.text.now k 0 ≡ 32 → ⊥ = search rules in
    let inside : c.in-Some.space < length c.args.text.now = search rules in
    words_before c.args.text.now c.in-Some.space (omega arith) before

pub returns-in-None-clause-word : goal.returns-in-None-clause-word
returns-in-None-clause-word c =
    let before : (k : ℕ) → k < length c.args.text.now → get_or c.args.text.now k 0 ≡ 32 → ⊥ = search rules in
    ap is_word (sym (take_all _ c.args.text.now (omega arith))) ∙ words_before c.args.text.now _ (omega arith) before

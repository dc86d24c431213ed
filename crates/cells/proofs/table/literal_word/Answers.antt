use Rattle.std.proofs.Common.{◌/◌, sym, ap, ◌∙◌}
use Rattle.std.proofs.lemmas.List.{get_or-map}
use Rattle.drawing.specs.Values.{turned}
use Rattle.cells.specs.Truth.{bit}
use Rattle.cells.proofs.table.literal_word.Goals as goal

pub returns : goal.returns
returns c = λ m h.
    let l = c.args.literal in
    c.turn.ensures m h ∙ ap (λ v. turned v l) (sym (get_or-map (λ w. bit w m) c.args.words.now (l / 2) 0 0 c.requires))

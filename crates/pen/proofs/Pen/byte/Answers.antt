use Rattle.std.proofs.Common.{◌≡◌, sym, ap, ◌∙◌}
use Rattle.std.proofs.lemmas.List.{set_past}
use Rattle.pen.specs.Wrote.{next_place}
use Rattle.pen.proofs.Pen.byte.Goals as goal
use Rattle.pen.proofs.Pen.byte.Goals.{then-self, else-self}

pub returns : goal.returns
returns c =
    let p = c.args.self.now in
    let next = c.saturating_add-self.ensures in
    elim c.if-self.branch [
      | then-self w ↦ record {
        same = ap (λ q. q.out.ghost_name) w.self-is;
        laid = let e : c.saturating_add-self.result ≡ next_place p.at = next ∙ ap (λ q. next_place q.at) w.self-is in λ i. ((w.self-is i).out.now, e i);
      }
      | else-self w ↦ record {
        same = ap (λ q. q.out.ghost_name) w.self-is;
        laid = let e : c.saturating_add-self.result ≡ next_place p.at = next ∙ ap (λ q. next_place q.at) w.self-is in
            let o = ap (λ q. q.out.now) w.self-is ∙ sym (set_past p.out.now p.at c.args.byte w.if-self.false) in λ i. (o i, e i);
      }
    ]

use Rattle.std.proofs.Common.{◌≡◌, suc, ◌-◌, ◌∷◌, length, sym, refl, ap, ◌∙◌, arith}
use Rattle.aiger.specs.declared.part.Kind.TheVariants.{Inputs, Outputs, Gates}
use Rattle.aiger.specs.Reads.{plan}
use Rattle.aiger.proofs.Bytes.{next_line}
use Rattle.aiger.proofs.reader.Reader.next.Goals as goal

pub returns-then-self-gt0 : goal.returns-then-self-gt0
returns-then-self-gt0 c =
    let r = c.args.self.now in
    let w = c.width-self.ensures in
    let e : r.inputs ≡ suc (r.inputs - 1) = omega arith in
    let none = c.requires.empty in
    record {
      on = refl;
      owes = λ l q. record {
        sound = record {
          fields = omega (arith, ap length none.0, ap (λ v. length v.items) q.numbers, q.more, w);
          outputs = omega arith;
        };
        same = next_line r none l q.pos q.numbers q.number q.row q.start Inputs (r.inputs - 1) r.outputs r.gates (q.more ∙ w) (ap (λ i. plan i r.outputs r.gates) e);
      };
    }

pub returns-then-self-gt0-2 : goal.returns-then-self-gt0-2
returns-then-self-gt0-2 c =
    let r = c.args.self.now in
    let w = c.width-self-then-self-gt0-2.ensures in
    let z : r.inputs ≡ 0 = omega arith in
    let e : r.outputs ≡ suc (r.outputs - 1) = omega arith in
    let none = c.requires.empty in
    record {
      on = refl;
      owes = λ l q. record {
        sound = record {
          fields = omega (arith, ap length none.0, ap (λ v. length v.items) q.numbers, q.more, w);
          outputs = omega arith;
        };
        same = next_line r none l q.pos q.numbers q.number q.row q.start Outputs r.inputs (r.outputs - 1) r.gates (q.more ∙ w) ((λ i. plan (z i) (e i) r.gates) ∙ ap (λ i. Outputs ∷ plan i (r.outputs - 1) r.gates) (sym z));
      };
    }

pub returns-then-self-gt0-3 : goal.returns-then-self-gt0-3
returns-then-self-gt0-3 c =
    let r = c.args.self.now in
    let w = c.width-self-then-self-gt0-3.ensures in
    let z : r.inputs ≡ 0 = omega arith in
    let y : r.outputs ≡ 0 = omega arith in
    let e : r.gates ≡ suc (r.gates - 1) = omega arith in
    let none = c.requires.empty in
    record {
      on = refl;
      owes = λ l q. record {
        sound = record {
          fields = omega (arith, ap length none.0, ap (λ v. length v.items) q.numbers, q.more, w);
          outputs = omega arith;
        };
        same = next_line r none l q.pos q.numbers q.number q.row q.start Gates r.inputs r.outputs (r.gates - 1) (q.more ∙ w) ((λ i. plan (z i) (y i) (e i)) ∙ (λ i. Gates ∷ plan (sym z i) (sym y i) (r.gates - 1)));
      };
    }

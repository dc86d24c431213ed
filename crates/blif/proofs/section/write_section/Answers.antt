use Rattle.std.proofs.Common.{◌≡◌, ℕ, ◌<◌, ◌≤◌, ◌++◌, length, drop, Ok, ap, ◌∙◌, sym, subst, rules, arith}
use Rattle.cells.specs.Netlist.{Netlist}
use Rattle.cells.specs.Netlists.{netlist_of}
use Rattle.pen.proofs.Wrote.{wrote_more, wrote_within, wrote_front, wrote_all}
use Rattle.blif.specs.Sections.{section_count, section_text, section_writes}
use Rattle.blif.proofs.Texts.{section_short, section_fits}
use Rattle.blif.proofs.section.write_section.Goals as goal

pub returns-then-out-length : goal.returns-then-out-length
returns-then-out-length c =
    let n : Netlist = netlist_of c.args.cover.now in
    let i = c.args.section in
    let below : i < section_count n = subst (λ (x : ℕ). i < x) c.sections.ensures.count c.if-section-sections.false in
    let s = section_short n i c.args.out.now below (wrote_more _ c.put_section.ensures c.new-pen.ensures.start c.if-out-length.true) in
    record { answer = sym s.0; buffer = sym s.1 }

pub returns-then-length-le-PAGE : goal.returns-then-length-le-PAGE
returns-then-length-le-PAGE c =
    let n : Netlist = netlist_of c.args.cover.now in
    let i = c.args.section in
    let out = c.args.out.now in
    let below : i < section_count n = subst (λ (x : ℕ). i < x) c.sections.ensures.count c.if-section-sections.false in
    let l = wrote_within (length out) c.put_section.ensures c.new-pen.ensures.start c.if-out-length.false (omega arith) in
    let fits : length (section_text n i) ≤ length out = subst (λ (k : ℕ). k ≤ length out) l c.if-out-length.false in
    let s = section_fits n i out below fits in
    let short : length (section_text n i) ≤ 512 = subst (λ (k : ℕ). k ≤ 512) l c.if-length-le-PAGE.true in
    let front = c.copy_from_slice.ensures.after ∙ wrote_front c.put_section.ensures c.new-pen.ensures.start c.new-pen.ensures.holds short (omega arith) (search rules) in
    let w = (λ j. front j ++ drop (l j) out) ∙ sym s.1 in
    record { answer = ap Ok l ∙ sym s.0; buffer = w }

pub returns-else-length-le-PAGE : goal.returns-else-length-le-PAGE
returns-else-length-le-PAGE c =
    let n : Netlist = netlist_of c.args.cover.now in
    let i = c.args.section in
    let out = c.args.out.now in
    let below : i < section_count n = subst (λ (x : ℕ). i < x) c.sections.ensures.count c.if-section-sections.false in
    let l = wrote_within (length out) c.put_section.ensures c.new-pen.ensures.start c.if-out-length.false (omega arith) in
    let fits : length (section_text n i) ≤ length out = subst (λ (k : ℕ). k ≤ length out) l c.if-out-length.false in
    let s = section_fits n i out below fits in
    let w : c.put_section-else-length-le-PAGE.new.pen.out.now ≡ section_writes n i out =
    wrote_all c.put_section-else-length-le-PAGE.ensures c.new.ensures.start c.new.ensures.holds fits (omega arith) ∙ sym s.1 in
    record { answer = ap Ok l ∙ sym s.0; buffer = (search rules) ∙ w }

use Rattle.std.proofs.Common.{◌≡◌, ℕ, ◌+◌, ◌-◌, ◌<◌, ◌≤◌, List, length, take, drop, ap, ◌∙◌, arith, length-append, length-drop, rules}
use Rattle.std.proofs.lemmas.Slice.{between_to_end}
use Rattle.std.proofs.lemmas.Result.{err_from_is_err_and, IfOk-from_err}
use Rattle.blif.specs.Text.{texts}
use Rattle.blif.specs.Sections.{section_answer, section_writes, section_count, section_text}
use Rattle.cells.specs.Netlists.{netlist_of}
use Rattle.flow.specs.Listing.{cell_list}
use Rattle.flow.proofs.Joining.{written_none, written_more, written_room, section_ok, section_short, list_done, list_short, put_end, printed_short}
use Rattle.flow.proofs.listing.write_sections.Goals as goal

pub loop-section-init : goal.loop-section-init
loop-section-init c = written_none _ _

pub slice_bounds-part-start : goal.slice_bounds-part-start
slice_bounds-part-start c = written_room _ c.loop-section.section c.loop-section.at c.args.out.now c.loop-section.out c.loop-section.invariant

pub slice_bounds-part-count : goal.slice_bounds-part-count
slice_bounds-part-count c = written_room _ c.loop-section.section c.loop-section.at c.args.out.now c.loop-section.out c.loop-section.invariant

pub loop-section-preserved : goal.loop-section-preserved
loop-section-preserved c =
    let l = c.loop-section in
    let n = netlist_of c.args.cover.now in
    let room = written_room (texts n) l.section l.at c.args.out.now l.out l.invariant in
    let inside : l.section < section_count n = omega (arith, c.sections-section-end.ensures.count) in
    let rest : take (length l.out - l.at) (drop l.at l.out) ≡ drop l.at l.out = between_to_end l.out l.at (length l.out) (omega arith) in
    let answer = c.in_ok-at.ensures.answer ∙ ap (λ (z : List ℕ). section_answer n l.section z) rest in
    let buffer = c.in_ok-at.ensures.buffer ∙ ap (λ (z : List ℕ). section_writes n l.section z) rest in
    let s = section_ok n l.section (drop l.at l.out) inside c.in_ok-at.field-0 c.write_section.new.out answer buffer in
    written_more (texts n) l.section inside l.at c.args.out.now l.out _ c.write_section.new.out c.in_ok-at.field-0 l.invariant room (put_end l.at l.out c.write_section.new.out room) s.1 s.0

pub returns : goal.returns
returns c =
    let l = c.loop-section in
    record {
      within = written_room _ l.section l.at c.args.out.now l.out l.invariant;
      printed = list_done _ l.section l.at c.args.out.now l.out (omega (arith, c.sections-section-end.ensures.count)) l.invariant;
    }

pub returns-in_err-at : goal.returns-in_err-at
returns-in_err-at c =
    let l = c.loop-section in
    let n = netlist_of c.args.cover.now in
    let inside : l.section < section_count n = omega (arith, c.sections-section-end.ensures.count) in
    let rest : take (length l.out - l.at) (drop l.at l.out) ≡ drop l.at l.out = between_to_end l.out l.at (length l.out) (omega arith) in
    let s = section_short n l.section (drop l.at l.out) inside c.in_err-at.field-0.0 (c.in_err-at.ensures.answer ∙ ap (λ (z : List ℕ). section_answer n l.section z) rest) in
    let p = err_from_is_err_and c.from_residual.result c.from_residual.ensures.1 in
    let r = c.from_residual.result in
    record { within = IfOk-from_err r _ c.from_residual.ensures.0; printed = printed_short (cell_list n) c.args.out.now c.from_residual.result _ p.0 p.1 (p.2 ∙ s.0) (list_short n l.section l.at c.args.out.now l.out inside l.invariant l.auto.out s.1) }

pub overflow_add-at : goal.overflow_add-at
overflow_add-at c =
    let l = c.loop-section in
    let n = netlist_of c.args.cover.now in
    let room = written_room (texts n) l.section l.at c.args.out.now l.out l.invariant in
    let inside : l.section < section_count n = omega (arith, c.sections-section-end.ensures.count) in
    let rest : take (length l.out - l.at) (drop l.at l.out) ≡ drop l.at l.out = between_to_end l.out l.at (length l.out) (omega arith) in
    let answer = c.in_ok-at.ensures.answer ∙ ap (λ (z : List ℕ). section_answer n l.section z) rest in
    let buffer = c.in_ok-at.ensures.buffer ∙ ap (λ (z : List ℕ). section_writes n l.section z) rest in
    let s = section_ok n l.section (drop l.at l.out) inside c.in_ok-at.field-0 c.write_section.new.out answer buffer in
    let h : l.at + c.in_ok-at.field-0 ≤ length l.out =
    omega (arith, s.0, ap length s.1, length-append (section_text n l.section) (drop (length (section_text n l.section)) (drop l.at l.out)), ap length rest, length-drop l.at l.out, c.write_section.auto.out) in
    search rules

use Rattle.std.proofs.Common.{◌<◌, ◌≤◌, length, Ok, Err, sym, refl, ap, ◌∙◌, subst, arith}
use Rattle.std.proofs.lemmas.Result.{err_from_is_err_and}
use Rattle.drawing.specs.declared.refusal.Refusal.TheVariants.{BadWidth, TooShort}
use Rattle.cells.specs.Netlists.{netlist_of}
use Rattle.fitter.specs.Book.{size}
use Rattle.fitter.specs.Jobs.{book_of}
use Rattle.fitter.specs.Mapping.{Mapped}
use Rattle.fitter.proofs.Accepting.{ready_kept, ready_room, map_accepted, map_stopped}
use Rattle.fitter.proofs.Histories.{mapped_did, mapped_answers}
use Rattle.fitter.proofs.job.Job.map.Goals as goal

pub returns-then-width-self : goal.returns-then-width-self
returns-then-width-self g c =
    let F = g.F.Family.delay c.args.family.now in
    let L = g.met.F.Family.lawful c.args.family.now in
    let i = c.args.self.now in
    let cover = c.args.cover.now in
    let table = c.args.arrivals.now in
    let m : Mapped F i cover table (Err BadWidth) i cover table = ((λ e. c.if-width-self.true (c.width.ensures ∙ e)), refl, record { same_cover = refl; same_table = refl }) in
    record { mapped = m; did = mapped_did F L i i cover cover table table (Err BadWidth) m; law = mapped_answers F L i i cover cover table table (Err BadWidth) m }

pub returns-then-arrivals-nodes : goal.returns-then-arrivals-nodes
returns-then-arrivals-nodes g c =
    let F = g.F.Family.delay c.args.family.now in
    let L = g.met.F.Family.lawful c.args.family.now in
    let i = c.args.self.now in
    let cover = c.args.cover.now in
    let table = c.args.arrivals.now in
    let short : length table < size (book_of i) = omega (arith, ap length c.nodes.ensures, c.if-arrivals-nodes.true) in
    let m : Mapped F i cover table (Err TooShort) i cover table = (sym c.width.ensures ∙ c.if-width-self.false, short, refl, record { same_cover = refl; same_table = refl }) in
    record { mapped = m; did = mapped_did F L i i cover cover table table (Err TooShort) m; law = mapped_answers F L i i cover cover table table (Err TooShort) m }

pub returns-in_err-made : goal.returns-in_err-made
returns-in_err-made g c =
    let F = g.F.Family.delay c.args.family.now in
    let L = g.met.F.Family.lawful c.args.family.now in
    let i = c.args.self.now in
    let j = c.make_lists.new.self in
    let cover = c.args.cover.now in
    let table = c.args.arrivals.now in
    let r = c.from_residual.result in
    let p = err_from_is_err_and c.from_residual.result c.from_residual.ensures.1 in
    let room : size (book_of i) ≤ length table = omega (arith, ap length c.nodes.ensures, c.if-arrivals-nodes.false) in
    let stop = map_stopped F i j cover table c.in_err-made.field-0.0 (sym c.width.ensures ∙ c.if-width-self.false) room c.in_err-made.ensures in
    let m : Mapped F i cover table r j cover table = subst (λ z. Mapped F i cover table z j cover table) (sym (p.1 ∙ ap Err p.2)) stop in
    record { mapped = m; did = mapped_did F L i j cover cover table table r m; law = mapped_answers F L i j cover cover table table r m }

pub take_cuts-cuts-requires : goal.take_cuts-cuts-requires
take_cuts-cuts-requires g c =
    let i = c.args.self.now in
    let j = c.make_lists.new.self in
    let r = c.in_ok-made.ensures in
    let room : size (book_of i) ≤ length c.args.arrivals.now = omega (arith, ap length c.nodes.ensures, c.if-arrivals-nodes.false) in
    record {
      lists = ready_kept i j c.in_ok-made.made r;
      room = ready_room i j c.in_ok-made.made r (length c.args.arrivals.now) room;
    }

pub returns : goal.returns
returns g c =
    let F = g.F.Family.delay c.args.family.now in
    let L = g.met.F.Family.lawful c.args.family.now in
    let i = c.args.self.now in
    let j = c.make_lists.new.self in
    let table = c.args.arrivals.now in
    let made = c.in_ok-made.made in
    let cells = c.fill-cells.result in
    let r = c.in_ok-made.ensures in
    let room : size (book_of i) ≤ length table = omega (arith, ap length c.nodes.ensures, c.if-arrivals-nodes.false) in
    let m = map_accepted F i j table c.take_cuts-cuts.new.table cells made (netlist_of c.fill-cells.new.cover) (sym c.width.ensures ∙ c.if-width-self.false) room r c.fill-cells.ensures.netlist c.fill-cells.ensures.count c.take_cuts-cuts.ensures.arrivals in
    record {
      mapped = m;
      did = mapped_did F L i j c.args.cover.now c.fill-cells.new.cover table c.take_cuts-cuts.new.table (Ok (cells, made)) m;
      law = mapped_answers F L i j c.args.cover.now c.fill-cells.new.cover table c.take_cuts-cuts.new.table (Ok (cells, made)) m;
    }

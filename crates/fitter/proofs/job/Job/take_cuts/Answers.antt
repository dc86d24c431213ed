use Rattle.std.proofs.Common.{◌≡◌, ◌<◌, Bor, List, option_map, length, refl, ap, subst, arith, length-set}
use Rattle.choice.specs.Choice.{Chosen}
use Rattle.cuts.specs.declared.cut.Cut.{Cut}
use Rattle.cuts.specs.Leaves.{sets_of}
use Rattle.fitter.specs.Jobs.{book_of}
use Rattle.fitter.specs.Taking.{Arrived}
use Rattle.fitter.proofs.AtHand.{job_few}
use Rattle.fitter.proofs.Arrivals.{list_some, list_within, list_at_hand, arrived_start, arrived_step, arrived_done, taken_step}
use Rattle.fitter.proofs.job.Job.take_cuts.Goals as goal

pub loop-v-init : goal.loop-v-init
loop-v-init g c =
    let F = g.F.Family.delay c.args.family.now in
    let b = book_of c.args.self.now in
    (refl, (λ u l. absurd (omega arith)), arrived_start F b c.args.table.now)

pub arrive-requires : goal.arrive-requires
arrive-requires g c =
    let j = c.args.self.now in
    let l = c.loop-v in
    let room : l.v < length l.table = omega (arith, ap length c.nodes-v-end.ensures, l.auto.table, c.requires.room) in
    record {
      place = room;
      some = list_some j c.requires.lists l.v c.needs-needed.result c.needs-needed.ensures c.row.result c.row.ensures c.then_some-list.result c.then_some-list.ensures;
      within = list_within j c.requires.lists l.v c.needs-needed.result c.needs-needed.ensures c.row.result c.row.ensures c.then_some-list.result c.then_some-list.ensures (length l.table) (omega arith);
    }

pub loop-v-preserved : goal.loop-v-preserved
loop-v-preserved g c =
    let j = c.args.self.now in
    let l = c.loop-v in
    let F = g.F.Family.delay c.args.family.now in
    let L = g.met.F.Family.lawful c.args.family.now in
    let inside : l.v < length (book_of j).drawing.nodes = omega (arith, ap length c.nodes-v-end.ensures) in
    let room : l.v < length l.table = omega (arith, l.auto.table, c.requires.room) in
    let place : l.v < length l.cuts = omega (arith, job_few j, l.invariant.0) in
    let list = option_map (λ (r : Bor (List Cut)). sets_of r.now) c.then_some-list.result in
    let at_hand = list_at_hand j c.requires.lists l.v c.needs-needed.result c.needs-needed.ensures c.row.result c.row.ensures c.then_some-list.result c.then_some-list.ensures in (
      simp length-set l.invariant.0,
      taken_step j l.v list at_hand F L c.args.table.now l.table l.invariant.2 l.cuts c.arrive.result place l.invariant.1 c.arrive.ensures.cut,
      arrived_step j l.v list at_hand F L c.args.table.now l.table l.invariant.2 c.arrive.new.table inside room c.arrive.ensures.arrival,
    )

pub returns : goal.returns
returns g c =
    let j = c.args.self.now in
    let l = c.loop-v in
    let F = g.F.Family.delay c.args.family.now in
    let e : l.v ≡ length (book_of j).drawing.nodes = omega (arith, ap length c.nodes-v-end.ensures) in
    record {
      cuts = subst (λ z. Chosen F (book_of j).drawing.nodes (book_of j).drawing.outputs j.width z (sets_of l.cuts)) e l.invariant.1;
      arrivals = arrived_done F (book_of j) c.args.table.now l.table (omega (arith, l.auto.table, c.requires.room)) (subst (λ z. Arrived F (book_of j) z c.args.table.now l.table) e l.invariant.2);
    }

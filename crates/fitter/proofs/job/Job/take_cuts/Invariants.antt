use Rattle.std.proofs.Common.{◌≡◌, length}
use Rattle.choice.specs.Choice.{Chosen}
use Rattle.cuts.specs.Leaves.{sets_of}
use Rattle.fitter.specs.Jobs.{book_of}
use Rattle.fitter.specs.Taking.{Arrived}
use Rattle.fitter.proofs.job.Job.take_cuts.Given as goal

abbrev pub invariant-loop-v : goal.invariant-loop-v
invariant-loop-v g l =
    let F = g.F.Family.delay l.family in
    (length l.cuts ≡ 256) × Chosen F (book_of l.self).drawing.nodes (book_of l.self).drawing.outputs l.self.width l.v (sets_of l.cuts) × Arrived F (book_of l.self) l.v l.initial.table l.table

use Rattle.std.proofs.Common.{◌≡◌, ℕ, false, not, ◌&&◌, ltb, get_or}
use Rattle.fitter.specs.Keeping.{held_of, row_of}
use Rattle.fitter.proofs.kept.Kept.forget.Given as goal

abbrev pub invariant-loop-v : goal.invariant-loop-v
invariant-loop-v l = record {
  held : (w : ℕ) → held_of l.self w ≡ (held_of l.initial.self w && not (ltb w l.v && get_or l.marks w false));
  rows : (w : ℕ) → row_of l.self w ≡ row_of l.initial.self w;
}

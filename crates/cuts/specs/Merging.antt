-- One step of a merge of two sets.
use Rattle.std.specs.Prelude.{◌≡◌, ℕ, ◌+◌, ◌<◌, true, List, ◌∷◌, length}
use Rattle.drawing.specs.Sets.{rises, union}

-- a step of the merge of s with t, which gives u and leaves s' and t'
pub record Stepped (s t : List ℕ) (u : ℕ) (s' t' : List ℕ) : Type 0 where
  -- u is the first of the union, and the union of what is left comes behind it
  pub taken : union s t ≡ u ∷ union s' t'
  -- what is left rises
  pub rising : (rises 0 s' ≡ true) × (rises 0 t' ≡ true)
  -- one of the two is shorter
  pub on : length s' + length t' < length s + length t

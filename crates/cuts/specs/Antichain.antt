-- Keeping what is minimal, a set at a time.
use Rattle.std.specs.Prelude.{ℕ, Bool, true, cond, not, ◌&&◌, List, [], ◌∷◌, ◌++◌}
use Rattle.drawing.specs.Sets.{sub, keep, some, every}

-- c is passed over if some kept set lies inside it; else what it lies inside goes, and c comes last
abbrev pub add : List (List ℕ) → List ℕ → List (List ℕ)
add kept c = cond (some (λ m. sub m c) kept) kept (keep (λ m. not (sub c m)) kept ++ c ∷ [])

-- what is kept once all sets were added, one after the other
abbrev pub survivors : List (List ℕ) → List (List ℕ) → List (List ℕ)
survivors kept [] = kept
survivors kept (c ∷ cs) = survivors (add kept c) cs

-- none lies inside another
abbrev pub apart : List (List ℕ) → Bool
apart [] = true
apart (x ∷ xs) = every (λ y. not (sub x y) && not (sub y x)) xs && apart xs

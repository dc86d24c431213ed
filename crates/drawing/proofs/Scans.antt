-- A test of some or of every element, through a map.
use Rattle.std.proofs.Common.{◌≡◌, Bool, ◌&&◌, ◌||◌, List, [], ◌∷◌, map, refl, ap}
use Rattle.drawing.specs.Sets.{some, every}

pub some_map : {X Y : Type 0} (p : Y → Bool) (f : X → Y) (xs : List X) → some p (map f xs) ≡ some (λ x. p (f x)) xs
some_map p f [] = refl
some_map p f (x ∷ xs) = ap (λ b. p (f x) || b) (some_map p f xs)

pub every_map : {X Y : Type 0} (p : Y → Bool) (f : X → Y) (xs : List X) → every p (map f xs) ≡ every (λ x. p (f x)) xs
every_map p f [] = refl
every_map p f (x ∷ xs) = ap (λ b. p (f x) && b) (every_map p f xs)

-- A loop over a list that leaves at the first element that fails a test: what is left gives the answer.
use Rattle.std.proofs.Common.{◌≡◌, ℕ, ◌+◌, ◌<◌, ◌≤◌, Bool, true, false, ◌&&◌, List, [], ◌∷◌, suc, length, get_or, drop, refl, sym, ap, ◌∙◌, arith}
use Rattle.std.proofs.lemmas.Bool.{and_from}
use Rattle.std.proofs.lemmas.List.{at_drop_more, at_drop_all}
use Rattle.drawing.specs.Sets.{every}

module _ {X : Type 0} (p : X → Bool) (xs : List X) (i : ℕ) where
  -- x is the element, read at any default
  module _ (x d : X) (l : i < length xs) (e : x ≡ get_or xs i d) where
    every_step : every p (drop i xs) ≡ (p x && every p (drop (i + 1) xs))
    every_step = at_drop_more (every p) xs i d l ∙ ap (λ z. p z && every p (drop (i + 1) xs)) (sym e)

    pub every_lost : every p (drop i xs) ≡ every p xs → p x ≡ false → false ≡ every p xs
    every_lost inv h = sym (ap (λ b. b && every p (drop (i + 1) xs)) h) ∙ sym every_step ∙ inv

    pub every_next : every p (drop i xs) ≡ every p xs → p x ≡ true → every p (drop (i + 1) xs) ≡ every p xs
    every_next inv h = sym (ap (λ b. b && every p (drop (i + 1) xs)) h) ∙ sym every_step ∙ inv

  pub every_all : every p (drop i xs) ≡ every p xs → length xs ≤ i → true ≡ every p xs
  every_all inv l = sym (at_drop_all (every p) xs i l) ∙ inv

-- a test that each element passes
pub every_each : {X : Type 0} (p : X → Bool) (xs : List X) (d : X) → ((k : ℕ) → k < length xs → p (get_or xs k d) ≡ true) → every p xs ≡ true
every_each p [] d h = refl
every_each p (x ∷ xs) d h = and_from _ _ (h 0 (omega arith)) (every_each p xs d (λ k l. h (suc k) (omega arith)))

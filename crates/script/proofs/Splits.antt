-- Words, and a text cut at its first space.
use Rattle.std.proofs.Common.{◌≡◌, ℕ, zero, suc, ◌+◌, ◌<◌, ◌≤◌, true, List, [], ◌∷◌, length, get_or, take, Some, None, Option, sym, refl, add-one, ap, ◌∙◌, arith, Bor, rules, MatchOption}
use Rattle.std.proofs.lemmas.List.{take_more}
use Rattle.std.proofs.lemmas.Bool.{and_parts}
use Rattle.drawing.proofs.Lists.{every_push}
use Rattle.script.specs.Fields.{then}
use Rattle.script.specs.Names.{is_word}

-- the beginning of a text up to a space
pub word_more : (xs : List ℕ) (i : ℕ) → i < length xs → is_word (take i xs) ≡ true → (get_or xs i 0 ≡ 32 → ⊥) → is_word (take (i + 1) xs) ≡ true
word_more xs i l w n = ap is_word (take_more xs i 0 l) ∙ every_push _ (take i xs) (get_or xs i 0) w (search rules)

pub words_before : (xs : List ℕ) (i : ℕ) → i ≤ length xs → ((k : ℕ) → k < i → get_or xs k 0 ≡ 32 → ⊥) → is_word (take i xs) ≡ true
words_before xs zero l h = refl
words_before xs (suc i) l h = rw (← add-one i) (word_more xs i (omega arith) (words_before xs i (omega arith) (λ k m. h k (omega arith))) (h i (omega arith)))

-- no word has a space in it
pub not_a_word : (a s : List ℕ) → is_word (then a s) ≡ true → ⊥
not_a_word [] s h = search rules
not_a_word (x ∷ xs) s h = not_a_word xs s (and_parts _ _ h).1

-- a text is cut at its first space in one way
pub one_cut : (a b s t : List ℕ) → is_word a ≡ true → is_word b ≡ true → then a s ≡ then b t → (a ≡ b) × (s ≡ t)
one_cut [] [] s t p q e = (refl, cc)
one_cut [] (y ∷ ys) s t p q e = search rules
one_cut (x ∷ xs) [] s t p q e = search rules
one_cut (x ∷ xs) (y ∷ ys) s t p q e =
    let d : then xs s ≡ then ys t = cc in
    let r = one_cut xs ys s t (and_parts _ _ p).1 (and_parts _ _ q).1 d in
    let h : x ≡ y = cc in
    (ap (λ z. z ∷ xs) h ∙ ap (λ z. y ∷ z) r.0, r.1)

-- the text is the word w, or it begins with it and a space
abbrev pub Cut : List ℕ → List ℕ → Option (Bor (List ℕ)) → Type 0
Cut text w rest = MatchOption rest (w ≡ text) (λ t. then w t.now ≡ text)

-- it begins with no other word
pub no_first : (text w a s : List ℕ) (rest : Option (Bor (List ℕ))) → is_word w ≡ true → Cut text w rest → is_word a ≡ true → (a ≡ w → ⊥) → then a s ≡ text → ⊥
no_first text w a s None p e q n h = not_a_word a s (ap is_word (h ∙ sym e) ∙ p)
no_first text w a s (Some t) p e q n h = n (one_cut a w s t.now q p (h ∙ sym e)).0

-- and it is no other word
pub no_only : (text w a : List ℕ) (rest : Option (Bor (List ℕ))) → is_word w ≡ true → Cut text w rest → is_word a ≡ true → (a ≡ w → ⊥) → a ≡ text → ⊥
no_only text w a None p e q n h = n (h ∙ sym e)
no_only text w a (Some t) p e q n h = not_a_word w t.now (ap is_word (e ∙ sym h) ∙ q)

-- nothing else stands behind the word
pub no_second : (text w t a s : List ℕ) → is_word w ≡ true → then w t ≡ text → is_word a ≡ true → (s ≡ t → ⊥) → then a s ≡ text → ⊥
no_second text w t a s p e q n h = n (one_cut a w s t q p (h ∙ sym e)).1

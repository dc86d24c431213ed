-- Texts split into lines, and lines into words.
use Rattle.std.proofs.Common.{◌≡◌, ℕ, zero, suc, ◌+◌, ◌/◌, ◌%◌, ◌<◌, true, false, not, eqb, ltb, List, [], ◌∷◌, ◌++◌, map, refl, ap, ◌∙◌, inl, inr, arith}
use Rattle.std.proofs.lemmas.List.{append-nil}
use Rattle.std.proofs.lemmas.Bool.{and_parts, and_from, not-true, not_from_false, cond-true, cond-false, cond_both, eq-eqb, ne_eqb, both_ways}
use Rattle.drawing.specs.Sets.{every, keep, In}
use Rattle.blif.specs.Text.{number, name, spaced, leaf_digits}
use Rattle.blif.specs.Reading.{onto, split, some_byte, pieces, words_of, lines_of}

-- no byte is the separator
abbrev pub Free : ℕ → List ℕ → Type 0
Free s bs = every (λ b. not (eqb b s)) bs ≡ true

split_free : (s : ℕ) (a : List ℕ) → Free s a → split s a ≡ a ∷ []
split_free s [] f = refl
split_free s (b ∷ bs) f =
    let p = and_parts (not (eqb b s)) (every (λ x. not (eqb x s)) bs) f in
    cond-false (eqb b s) _ _ (not-true (eqb b s) p.0) ∙ ap (onto b) (split_free s bs p.1)

split_at : (s : ℕ) (a rest : List ℕ) → Free s a → split s (a ++ s ∷ rest) ≡ a ∷ split s rest
split_at s [] rest f = cond-true (eqb s s) _ _ (eq-eqb s s refl)
split_at s (b ∷ bs) rest f =
    let p = and_parts (not (eqb b s)) (every (λ x. not (eqb x s)) bs) f in
    cond-false (eqb b s) _ _ (not-true (eqb b s) p.0) ∙ ap (onto b) (split_at s bs rest p.1)

pub pieces_at : (s : ℕ) (a rest : List ℕ) → Free s a → some_byte a ≡ true → pieces s (a ++ s ∷ rest) ≡ a ∷ pieces s rest
pieces_at s a rest f h = ap (keep some_byte) (split_at s a rest f) ∙ cond-true (some_byte a) _ _ h

pub pieces_end : (s : ℕ) (a : List ℕ) → Free s a → some_byte a ≡ true → pieces s a ≡ a ∷ []
pieces_end s a f h = ap (keep some_byte) (split_free s a f) ∙ cond-true (some_byte a) _ _ h

-- a line
pub line_at : (a rest : List ℕ) → Free 10 a → some_byte a ≡ true → lines_of (a ++ 10 ∷ rest) ≡ words_of a ∷ lines_of rest
line_at a rest f h = ap (map words_of) (pieces_at 10 a rest f h)

-- words
pub record Word (w : List ℕ) : Type 0 where
  pub whole : Free 32 w
  pub lined : Free 10 w
  pub there : some_byte w ≡ true

abbrev pub Words : List (List ℕ) → Type 0
Words ws = (w : List ℕ) → In w ws → Word w

pub words_spaced : (a : List ℕ) (ws : List (List ℕ)) → Word a → Words ws → words_of (a ++ spaced ws) ≡ a ∷ ws
words_spaced a [] p ps = ap (pieces 32) (append-nil a) ∙ pieces_end 32 a p.whole p.there
words_spaced a (w ∷ ws) p ps =
    pieces_at 32 a (w ++ spaced ws) p.whole p.there
    ∙ ap (λ xs. a ∷ xs) (words_spaced w ws (ps w (inl refl)) (λ x i. ps x (inr i)))

pub free_append : (s : ℕ) (xs ys : List ℕ) → Free s xs → Free s ys → Free s (xs ++ ys)
free_append s [] ys f g = g
free_append s (x ∷ xs) ys f g =
    let p = and_parts (not (eqb x s)) (every (λ b. not (eqb b s)) xs) f in
    and_from (not (eqb x s)) _ p.0 (free_append s xs ys p.1 g)

pub free_spaced : (ws : List (List ℕ)) → Words ws → Free 10 (spaced ws)
free_spaced [] ps = refl
free_spaced (w ∷ ws) ps =
    free_append 10 w (spaced ws) (ps w (inl refl)).lined (free_spaced ws (λ x i. ps x (inr i)))

pub some_append : (xs ys : List ℕ) → some_byte xs ≡ true → some_byte (xs ++ ys) ≡ true
some_append [] ys h = absurd (both_ways false refl h)
some_append (x ∷ xs) ys h = refl

-- digits are no separators
digit_free : (s x : ℕ) → s < 48 → not (eqb (48 + x) s) ≡ true
digit_free s x h = not_from_false (eqb (48 + x) s) (ne_eqb (48 + x) s (λ e. omega arith))

number_free : (s n : ℕ) → s < 48 → Free s (number n)
number_free s n h =
    cond_both (ltb n 10) ((48 + n) ∷ []) _ (λ bs. Free s bs) (λ _. and_from _ _ (digit_free s n h) refl)
    (λ _. cond_both (ltb n 100) ((48 + n / 10) ∷ (48 + n % 10) ∷ []) _ (λ bs. Free s bs)
    (λ _. and_from _ _ (digit_free s (n / 10) h) (and_from _ _ (digit_free s (n % 10) h) refl))
    (λ _. and_from _ _ (digit_free s (n / 100) h) (and_from _ _ (digit_free s (n / 10 % 10) h) (and_from _ _ (digit_free s (n % 10) h) refl))))

pub name_word : (letter n : ℕ) → 48 < letter → Word (name letter n)
name_word letter n h = record {
  whole = and_from (not (eqb letter 32)) _ (not_from_false (eqb letter 32) (ne_eqb letter 32 (λ e. omega arith))) (number_free 32 n (omega arith));
  lined = and_from (not (eqb letter 10)) _ (not_from_false (eqb letter 10) (ne_eqb letter 10 (λ e. omega arith))) (number_free 10 n (omega arith));
  there = refl;
}

pub digits_free : (s m n : ℕ) → s < 48 → Free s (leaf_digits m n)
digits_free s m zero h = refl
digits_free s m (suc n) h = and_from _ _ (digit_free s (m % 2) h) (digits_free s (m / 2) n h)

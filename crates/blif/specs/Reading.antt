-- How BLIF reads a text: lines of words, where a word that begins with a dot begins a command.
use Rattle.std.specs.Prelude.{ℕ, ◌+◌, ◌-◌, Bool, true, false, cond, ◌&&◌, ◌||◌, List, [], ◌∷◌, ◌++◌, map, length, take, drop, codes, ◌==◌, slice_index, slice_index_or}
use Rattle.std.specs.List.{flat_map}
use Rattle.drawing.specs.Sets.{some, keep, same}

-- a byte in front of the first piece
abbrev pub onto : ℕ → List (List ℕ) → List (List ℕ)
onto b [] = (b ∷ []) ∷ []
onto b (p ∷ ps) = (b ∷ p) ∷ ps

-- what stands between the bytes s, before the first and behind the last
abbrev pub split : ℕ → List ℕ → List (List ℕ)
split s [] = [] ∷ []
split s (b ∷ bs) = cond (b == s) ([] ∷ split s bs) (onto b (split s bs))

-- the list is not empty
abbrev pub some_byte : List ℕ → Bool
some_byte [] = false
some_byte (b ∷ bs) = true

-- the pieces that have a byte
abbrev pub pieces : ℕ → List ℕ → List (List ℕ)
pieces s bs = keep some_byte (split s bs)

-- the words of a line stand between spaces
abbrev pub words_of : List ℕ → List (List ℕ)
words_of bs = pieces 32 bs

-- a text is lines of words, each line ended by byte 10; a line with nothing in it counts for nothing
abbrev pub lines_of : List ℕ → List (List (List ℕ))
lines_of text = map words_of (pieces 10 text)

-- all but the last
abbrev pub front : {X : Type 0} → List X → List X
front xs = take (length xs - 1) xs

-- the last of some words
abbrev pub last : List (List ℕ) → List ℕ
last words = slice_index_or words (length words - 1) []

-- a `.names` block: its input names, its output name, and its rows, each as words
pub record Block : Type 0 where
  pub ins : List (List ℕ)
  pub out : List ℕ
  pub rows : List (List (List ℕ))

-- what is read: the inputs, the outputs, the blocks, and in front of them rows whose block is still to come
pub record Model : Type 0 where
  pub inputs : List (List ℕ)
  pub outputs : List (List ℕ)
  pub blocks : List Block
  pub loose : List (List (List ℕ))

-- a model with no inputs, outputs or blocks
abbrev pub no_model : Model
no_model = record { inputs = []; outputs = []; blocks = []; loose = [] }

-- the block of these names takes the rows behind it
abbrev pub block : List (List ℕ) → List (List (List ℕ)) → Block
block names rows = record { ins = front names; out = last names; rows = rows }

-- a command in front of what is read: other commands than these three say nothing of values
abbrev pub command : List ℕ → List (List ℕ) → Model → Model
command word args m =
    cond (same word (codes ".inputs")) (record { inputs = args ++ m.inputs; outputs = m.outputs; blocks = m.blocks; loose = [] })
    (cond (same word (codes ".outputs")) (record { inputs = m.inputs; outputs = args ++ m.outputs; blocks = m.blocks; loose = [] })
    (cond (same word (codes ".names")) (record { inputs = m.inputs; outputs = m.outputs; blocks = block args m.loose ∷ m.blocks; loose = [] })
    (record { inputs = m.inputs; outputs = m.outputs; blocks = m.blocks; loose = [] })))

-- a row of values belongs to the block before it
abbrev pub loose_row : List (List ℕ) → Model → Model
loose_row words m = record { inputs = m.inputs; outputs = m.outputs; blocks = m.blocks; loose = words ∷ m.loose }

-- a line in front of what is read: its first word begins with a dot, or it is a row
abbrev pub read_line : List (List ℕ) → Model → Model
read_line words m = cond (slice_index (slice_index_or words 0 []) 0 == 46) (command (slice_index_or words 0 []) (drop 1 words) m) (loose_row words m)

-- the model of some lines, each a list of words
abbrev pub read_lines : List (List (List ℕ)) → Model
read_lines [] = no_model
read_lines (l ∷ ls) = read_line l (read_lines ls)

-- the model of a text
abbrev pub read_model : List ℕ → Model
read_model text = read_lines (lines_of text)

-- a byte of a row stands for a value: 0, 1, or a dash for both
abbrev pub stands : ℕ → ℕ → Bool
stands b v = b == 45 || b == 48 + v

-- a row's bytes stand for the values, one for each
abbrev pub fits : List ℕ → List ℕ → Bool
fits [] [] = true
fits [] (v ∷ vs) = false
fits (b ∷ bs) [] = false
fits (b ∷ bs) (v ∷ vs) = stands b v && fits bs vs

-- a row ends with the word 1, and what stands in front of it fits the values
abbrev pub gives : List ℕ → List (List ℕ) → Bool
gives values row = same (last row) (codes "1") && fits (flat_map (λ word. word) (front row)) values

-- a block has the value 1 where one of its rows gives it, and else 0
abbrev pub block_value : (List ℕ → ℕ) → Block → ℕ
block_value value b = cond (some (gives (map value b.ins)) b.rows) 1 0

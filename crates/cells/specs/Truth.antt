-- The values in a cone, and the truth table of a cell.
use Rattle.std.specs.Prelude.{ℕ, zero, suc, ◌+◌, ◌*◌, ◌/◌, ◌%◌, ◌^◌, Bool, cond, List, [], ◌∷◌, map, length, Option, Some, None, nat_eq, nat_lt, slice_index}
use Rattle.std.specs.List.{range_with_len}
use Rattle.drawing.specs.declared.node.Node.{Node}
use Rattle.drawing.specs.Sets.{every}
use Rattle.drawing.specs.Column.{column}
use Rattle.drawing.specs.Values.{valuing, lookup}
use Rattle.cells.specs.Limits.{table_bits}

-- bit m of a number
abbrev pub bit : ℕ → ℕ → ℕ
bit t m = t / 2 ^ m % 2

-- the values in row m of words that have a bit for each row
abbrev pub in_row : ℕ → List ℕ → List ℕ
in_row m words = map (λ w. bit w m) words

-- the leaves with their values in row m: leaf j, counted from 0, has bit j of m
abbrev pub leaf_bits : List ℕ → ℕ → List (ℕ × ℕ)
leaf_bits [] m = []
leaf_bits (l ∷ ls) m = (l, m % 2) ∷ leaf_bits ls (m / 2)

-- the value in row m of a node that may be a leaf with this word, and is d where it is none
abbrev pub pinned : Option ℕ → ℕ → ℕ → ℕ
pinned None m d = d
pinned (Some w) m d = bit w m

-- the value of an input that is no leaf: 0
abbrev pub unset : ℕ → ℕ
unset n = 0

-- a leaf has the value that it is given, which hides all below it; any other node has its own
abbrev pub coning : List (ℕ × ℕ) → List ℕ → Node → ℕ
coning leaves lower node = lookup leaves (length lower) (valuing unset lower node)

-- the root's value in row m of the leaves
abbrev pub cone : List Node → List ℕ → ℕ → ℕ → ℕ
cone nodes leaves root m = slice_index (column (coning (leaf_bits leaves m)) nodes) root

-- the number with f m as bit m, for each m below n
abbrev pub packed : (ℕ → ℕ) → ℕ → ℕ
packed f zero = 0
packed f (suc n) = packed f n + f n * 2 ^ n

-- bit m of the table of a cell with n leaves whose row m has the value f m: bits from 2^n upwards are 0
abbrev pub table_bit : ℕ → (ℕ → ℕ) → ℕ → ℕ
table_bit n f m = cond (nat_lt m (2 ^ n)) (f m) 0

-- the table of the cell with this root and these leaves
unfoldable pub table_of : List Node → List ℕ → ℕ → ℕ
table_of nodes leaves root = packed (table_bit (length leaves) (cone nodes leaves root)) table_bits

-- the bits of a table of n leaves that no row reaches are as in every table
unfoldable pub filled : ℕ → ℕ → Bool
filled n t = every (λ m. nat_eq (bit t m) (table_bit n (bit t) m)) (range_with_len 0 table_bits)

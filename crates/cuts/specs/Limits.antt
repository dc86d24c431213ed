-- How many cuts a list holds.
use Rattle.std.specs.Prelude.{ℕ}

-- the most cuts that a list holds, at any width
abbrev pub most_cuts : ℕ
most_cuts = 32

-- the most cuts that a list holds, by the width
abbrev pub limit : ℕ → ℕ
limit k = most_cuts

-- the most choices at a fanin: the node itself, and the cuts of its list
abbrev pub most_ways : ℕ
most_ways = 33

-- the most joins of two choices
abbrev pub most_joins : ℕ
most_joins = 1089

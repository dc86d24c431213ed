-- Arrivals with a rank and a tag.
use Rattle.std.specs.Prelude.{ℕ, ◌+◌, ◌*◌, ◌%◌, ◌^◌, min, nat_le}
use Rattle.family.specs.Family.{Delay}
use Rattle.family_tests.specs.declared.ranks.Rank.{Rank}

-- one rank more, and the number of leaves behind the tag, both in 16 bits
abbrev pub rank_result : Rank → ℕ → Rank
rank_result r n = record { rank = min (r.rank + 1) 65535; tag = (r.tag * 6 % 2 ^ 16 + n) % 2 ^ 16 }

-- the ranks alone decide
abbrev pub ranks : ℕ → Delay Rank
ranks w = record { width = w; start = record { rank = 0; tag = 0 }; not_later = λ r s. nat_le r.rank s.rank; result = rank_result }

-- What the two supplied families tell.
use Rattle.std.specs.Prelude.{◌≡◌, ℕ, ◌+◌, min, Bool, true, false, cond, ◌&&◌, ◌||◌, Ok, Err, Result, ◌==◌, nat_le, nat_lt}
use Rattle.drawing.specs.declared.refusal.Refusal.{Refusal}
use Rattle.drawing.specs.declared.refusal.Refusal.TheVariants.{BadWidth}
use Rattle.family.specs.Family.{Delay}
use Rattle.drawing.specs.Drawing.{most_leaves}

-- the widths that a part has
abbrev pub is_width : ℕ → Bool
is_width w = nat_le 2 w && nat_le w most_leaves

-- a family of this width, or the refusal of a width that no part has
abbrev pub MadeFor : {T : Type 0} → (T → ℕ) → ℕ → Result T Refusal → Type 0
MadeFor width_of w (Ok f) = (is_width w ≡ true) × (width_of f ≡ w)
MadeFor width_of w (Err e) = (is_width w ≡ false) × (e ≡ BadWidth)

-- where the counts of levels and of pins stop
abbrev pub most : ℕ
most = 65535

-- levels: one more for each cell
abbrev pub levels : ℕ → Delay ℕ
levels w = record { width = w; start = 0; not_later = nat_le; result = λ r n. min (r + 1) most }

-- pairs of levels and pins: the levels decide, and then the pins
abbrev pub pins_not_later : ℕ × ℕ → ℕ × ℕ → Bool
pins_not_later r s = nat_lt r.0 s.0 || (r.0 == s.0 && nat_le r.1 s.1)

-- one more level, and a pin for each leaf; from the last level on both are at their most
abbrev pub pins_result : ℕ × ℕ → ℕ → ℕ × ℕ
pins_result r n = cond (nat_lt r.0 most) (r.0 + 1, min (r.1 + n) most) (most, most)

-- pairs of levels and pins: a cell adds one level and a pin for each leaf
abbrev pub pins : ℕ → Delay (ℕ × ℕ)
pins w = record { width = w; start = (0, 0); not_later = pins_not_later; result = pins_result }

-- A constrained difference and a rounded sum, in bytes. Definitions only.
use Rattle.std.specs.Prelude.{ℕ, ◌+◌, ◌-◌, ◌/◌, ◌^◌, min}

-- constrain(a - b) where a is above b, else 0; sh is constrain's shift
unfoldable pub above_of : ℕ → ℕ → ℕ → ℕ → ℕ
above_of a b s sh = min (a - b) (s - ((a - b) + (b - a)) / 2 ^ sh)

-- a sum's excess over the opposite one, over 16, halves rounded up; 0 where there is none
unfoldable pub excess_of : ℕ → ℕ → ℕ
excess_of a b = (a - b + 8) / 16

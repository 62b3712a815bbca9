-- The samples examined, as the code combines them. Definitions only.
use Rattle.std.specs.Prelude.{ℕ, zero, suc, ◌+◌, ◌*◌, List, get_or}
use Rattle.std.specs.Int.Bits.{bit_or}

-- the bits set in any of n samples from `at` on, and in rows of them
unfoldable pub or_row : List ℕ → ℕ → ℕ → ℕ
or_row s at zero = 0
or_row s at (suc n) = bit_or (or_row s at n) (get_or s (at + n) 0)

unfoldable pub or_rows : List ℕ → ℕ → ℕ → ℕ → ℕ → ℕ → ℕ
or_rows s width y x cols zero = 0
or_rows s width y x cols (suc n) = bit_or (or_rows s width y x cols n) (or_row s ((y + n) * width + x) cols)

-- Terms of the square root's contracts. Definitions only.
use Rattle.std.specs.Prelude.{ℕ, ◌+◌, ◌-◌, ◌*◌, ◌^◌, ◌≤◌, ◌<◌, Bool, false, cond, ◌&&◌, leb, pos, Float}
use Rattle.std.specs.Float.{inf, fin}
use Rattle.std.specs.Float.Ieee.{le, lt}
use Rattle.cdef_spec.specs.Root.{least_normal}

-- a number that is not subnormal, above 0 and below the infinity
abbrev pub normal : Float → Bool
normal v = le least_normal v && lt v (inf false)

-- 2 ^ 53, up to which every whole number is an f64
abbrev pub two53 : Float
two53 = fin false 1 (pos 53)

-- n is the whole number nearest to the square root of M, for M of 1 or more: n - 1/2 < √M < n + 1/2, that is (2 n - 1)² < 4 M < (2 n + 1)², with the 4 divided out. No whole M lies at a tie
pub record NearestWhole (M n : ℕ) : Type 0 where
  pub above : n * n < M + n
  pub below : M ≤ n * n + n

-- g is the integer square root of h
unfoldable pub is_root : ℕ → ℕ → Bool
is_root h g = leb (g * g) h && leb (h - g * g) (2 * g)

-- the loop's measure, which the next guess lessens: a guess below the square root is followed by one above it, and those decrease; 2 ^ 29 exceeds them all
unfoldable pub guesses_left : ℕ → ℕ → ℕ
unfolding is_root
guesses_left h g = cond (is_root h g) 0 (cond (leb (g * g) h) (2 ^ 29) g)

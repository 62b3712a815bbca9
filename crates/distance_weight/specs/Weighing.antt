-- Terms of the weighted distance's contracts. Definitions only.
use Rattle.std.specs.Prelude.{◌≡◌, ℕ, ◌≤◌, Float}
use Rattle.std.specs.Float.{binary64}
use Rattle.std.specs.Float.Ieee.{add, mul, to_unsigned}
use Rattle.cdef_spec.specs.declared.DistanceConstants.{DistanceConstants}
use Rattle.cdef_spec.specs.Distance.{whole, half, constants_of, squares_limit, weight}

-- the constants are those of a depth that passes question 1
pub record OfDepth (c : DistanceConstants) (depth : ℕ) : Type 0 where
  pub deep : 8 ≤ depth
  pub flat : depth ≤ 12
  pub is : c ≡ constants_of depth

-- the limit of the largest depth
abbrev pub most : ℕ
most = 1073217600

-- 0.5 + e * w, truncated to an integer
unfoldable pub times_of : ℕ → Float → ℕ
unfolding add mul to_unsigned
times_of e w = to_unsigned 64 (add binary64 half (mul binary64 (whole e) w))

-- w is the weight of two numbers that are at most what spreads of a depth are, and e at most what sums of its squares are
pub record Weighs (w : Float) (e : ℕ) : Type 0 where
  pub constants : DistanceConstants
  pub depth : ℕ
  pub first : ℕ
  pub second : ℕ
  pub deep : OfDepth constants depth
  pub first-low : first ≤ squares_limit depth
  pub second-low : second ≤ squares_limit depth
  pub error-low : e ≤ squares_limit depth
  pub is : w ≡ weight constants first second

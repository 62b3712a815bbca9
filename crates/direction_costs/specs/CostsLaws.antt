-- The costs as plain sums.
use Rattle.std.specs.Prelude.{◌≡◌, ℕ, ◌+◌, ◌*◌, ℤ}
use native.Mathlib.Omega.{arith}
use Rattle.cdef_spec.specs.Words.{sum}
use Rattle.cdef_spec.specs.Standard.{square, div_table, div_by, cost_straight, cost_diagonal, cost_between}

module _ (p : ℕ → ℤ) where
  pub straight-is : cost_straight p ≡ (square (p 0) + square (p 1)) * div_by 8 + (square (p 2) + square (p 3)) * div_by 8 + (square (p 4) + square (p 5)) * div_by 8 + (square (p 6) + square (p 7)) * div_by 8
  unfolding cost_straight sum div_table
  straight-is = omega arith

  pub diagonal-is : cost_diagonal p ≡ (square (p 0) + square (p 14)) * div_by 1 + (square (p 1) + square (p 13)) * div_by 2 + (square (p 2) + square (p 12)) * div_by 3 + (square (p 3) + square (p 11)) * div_by 4 + (square (p 4) + square (p 10)) * div_by 5 + (square (p 5) + square (p 9)) * div_by 6 + (square (p 6) + square (p 8)) * div_by 7 + square (p 7) * div_by 8
  unfolding cost_diagonal sum div_table
  diagonal-is = omega arith

  pub between_is : cost_between p ≡ (square (p 0) + square (p 10)) * div_by 2 + (square (p 1) + square (p 9)) * div_by 4 + (square (p 2) + square (p 8)) * div_by 6 + (square (p 3) + square (p 7)) * div_by 8 + (square (p 4) + square (p 6)) * div_by 8 + square (p 5) * div_by 8
  unfolding cost_between sum div_table
  between_is = omega arith

-- `arith_numbers::squared_difference` meets its contract.
use mathlib.Core.Path.{◌≡◌, ◌∙◌}
use Prim.Native.Nat.{ℕ, ◌+◌, ◌-◌, ◌*◌, ◌%◌, ◌≤◌, ◌<◌, max, min}
use native.Mathlib.Nat.{mul-le-mul, mod-eq_of_lt}
use native.Mathlib.Omega.{arith}
use Rattle.cdef_spec.specs.Distance.{squared_difference}
use Rattle.arith_numbers.proofs.squared_difference.Goals as goal

-- the remainder changes nothing
whole : (a b d : ℕ) → (a < 4096) × (b < 4096) → d ≡ (a - b) + (b - a) → d % 4096 ≡ max a b - min a b
whole a b d h e = let g : d < 4096 = omega arith in mod-eq_of_lt g ∙ omega arith

small : (d : ℕ) → d % 4096 * (d % 4096) ≤ 4095 * 4095
small d = let h : d % 4096 ≤ 4095 = omega arith in mul-le-mul h h

pub overflow_mul-result : goal.overflow_mul-result
overflow_mul-result c = omega (arith, small c.abs_diff.result)

pub returns : goal.returns
returns c = unfold squared_difference in rw (whole _ _ _ c.requires c.abs_diff.ensures)

-- The square of an i16, computed as an i32.
use mathlib.Core.Path.{◌≡◌, refl}
use Prim.Native.Nat.{◌*◌, ◌≤◌}
use native.Mathlib.Nat.{mul-le-mul}
use native.Mathlib.Omega.{arith}
use lib.IntN.{ℤ, pos, negsuc, nat_abs, ◌*ℤ◌}
use mir.Syntax.{w16, w32}
use mir.Val.{SFits, to_z, of_z}
use mir.ValLaws.{to_z-of_z}
use Rattle.cdef_spec.specs.SignedLaws.{fits, back, back-nat}
use Rattle.cdef_spec.specs.Standard.{square}

small : (v : ℤ) → SFits w16 v → nat_abs v ≤ 32768
small (pos n) h = omega (arith, h.sfits)
small (negsuc n) h = omega (arith, h.sfits)

pub square-low : (v : ℤ) → SFits w16 v → square v ≤ 32768 * 32768
unfolding square
square-low v h = mul-le-mul (small v h) (small v h)

times : (v : ℤ) → v *ℤ v ≡ pos (square v)
unfolding square
times (pos n) = refl
times (negsuc n) = refl

module _ (v : ℤ) (h : SFits w16 v) where
  wide : to_z w32 (of_z w32 (to_z w16 (of_z w16 v))) ≡ v
  wide = rw (to_z-of_z w16 v h) (back w32 v (omega (arith, small v h)))

  pub wide_fits : SFits w32 (to_z w16 (of_z w16 v))
  wide_fits = rw (to_z-of_z w16 v h) (fits w32 v (omega (arith, small v h)))

  product : to_z w32 (of_z w32 (to_z w16 (of_z w16 v))) *ℤ to_z w32 (of_z w32 (to_z w16 (of_z w16 v))) ≡ pos (square v)
  product = rw wide (times v)

  pub product-fits : SFits w32 (to_z w32 (of_z w32 (to_z w16 (of_z w16 v))) *ℤ to_z w32 (of_z w32 (to_z w16 (of_z w16 v))))
  product-fits = rw product (record { sfits = omega (arith, square-low v h) })

  pub product-back : to_z w32 (of_z w32 (to_z w32 (of_z w32 (to_z w16 (of_z w16 v))) *ℤ to_z w32 (of_z w32 (to_z w16 (of_z w16 v))))) ≡ pos (square v)
  product-back = rw product (back-nat w32 (square v) (omega (arith, square-low v h)))

-- A sample less 128, as a small i16.
use mathlib.Core.Path.{◌≡◌}
use Prim.Native.Nat.{ℕ, ◌<◌}
use native.Mathlib.Omega.{arith}
use lib.IntN.{pos, ◌-ℤ◌}
use mir.Syntax.{w16}
use mir.Val.{SFits, to_z, of_z}
use Rattle.arith_sample.proofs.Sums16.{fits, back, back-nat}
use Rattle.direction_levels.specs.LevelLaws.{less-128}

module _ (a : ℕ) (h : a < 256) where
  pub level-fits : SFits w16 (to_z w16 a -ℤ pos 128)
  level-fits = rw (back-nat a (omega arith)) (fits (pos a -ℤ pos 128) (omega (arith, less-128 a h)))

  pub level-back : to_z w16 (of_z w16 (to_z w16 a -ℤ pos 128)) ≡ pos a -ℤ pos 128
  level-back = rw (back-nat a (omega arith)) (back (pos a -ℤ pos 128) (omega (arith, less-128 a h)))

-- `arith_numbers::difference` meets its contract.
use mathlib.Core.Path.{◌≡◌}
use Prim.Native.Nat.{◌<◌}
use native.Mathlib.Omega.{arith}
use lib.IntN.{pos, nat_abs, ◌-ℤ◌}
use mir.Syntax.{w16}
use mir.Val.{to_z}
use Rattle.cdef_spec.specs.SignedLaws.{size-diff, fits, back, back-nat}
use Rattle.arith_numbers.proofs.difference.Goals as goal
use Rattle.arith_numbers.proofs.difference.Goals.{Start}

diff : (s : Start) → to_z w16 s.args.a -ℤ to_z w16 s.args.b ≡ pos s.args.a -ℤ pos s.args.b
diff s = rw (back-nat w16 s.args.a (omega (arith, s.requires.0)), back-nat w16 s.args.b (omega (arith, s.requires.1)))

small : (s : Start) → nat_abs (pos s.args.a -ℤ pos s.args.b) < 32768
small s = omega (arith, size-diff s.args.a s.args.b, s.requires.0, s.requires.1)

pub overflow_sub-result : goal.overflow_sub-result
overflow_sub-result c = rw (diff c) (fits w16 _ (small c))

pub returns : goal.returns
returns c = rw (diff c) (back w16 _ (small c))

-- What a passed test says as a bound: strengths, dampings, differences.
use Rattle.std.specs.Prelude.{◌≡◌, true, ℕ, ◌≤◌, ℤ, nat_abs}
use Rattle.std.proofs.Common.{leb-true}
use Rattle.cdef_spec.specs.declared.WorkingDamping.{WorkingDamping}
use Rattle.cdef_spec.specs.Questions.{strength_taken, working_taken, difference_taken}

pub strength-le : (s : ℕ) → strength_taken s ≡ true → s ≤ 240
unfolding strength_taken
strength-le s e = leb-true s 240 e

pub working-le : (d : WorkingDamping) → working_taken d ≡ true → d.0 ≤ 31
unfolding working_taken
working-le d e = leb-true d.0 31 e

pub difference-le : (z : ℤ) → difference_taken z ≡ true → nat_abs z ≤ 4095
unfolding difference_taken
difference-le z e = leb-true (nat_abs z) 4095 e

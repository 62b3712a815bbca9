-- The proof of OtherFlagRejected.
use Rattle.std.specs.Prelude.{refl}
use Rattle.std.proofs.Common.{arith, ne_eqb}
use Rattle.cdef_spec.specs.Document01.{in_force}
use Rattle.cdef_spec.specs.Questions.{signalled_taken}
use Rattle.arith_damping.specs.Choice.{choice_of, OtherFlagRejected}

pub other-flag-rejected : OtherFlagRejected
unfolding choice_of in_force signalled_taken
other-flag-rejected damping unstated high = rw (ne_eqb unstated 0 (λ e. omega (arith, e, high)), ne_eqb unstated 1 (λ e. omega (arith, e, high))) refl

-- Where 1 and 2 pass, the depth and the sides are in range; and a plane as long as they say is full.
use Rattle.std.proofs.Common.{arith}
use Rattle.cdef_spec.specs.AnswerLaws.{zero-so}
use Rattle.check_pass.specs.PassLaws.{sides-facts, product-low}
use Rattle.check_pass.proofs.direction_pass_no.Goals as goal

pub overflow_mul-plane : goal.overflow_mul-plane
overflow_mul-plane c = omega (arith, product-low _ _ _ (sides-facts _ _ _ (zero-so _ _ c.in_ok-sides.ensures)))

pub samples_below-requires : goal.samples_below-requires
samples_below-requires c = (sides-facts _ _ _ (zero-so _ _ c.in_ok-sides.ensures)).flat

pub invariant_of-result : goal.invariant_of-result
invariant_of-result c =
    let f = sides-facts _ _ _ (zero-so _ _ c.in_ok-sides.ensures) in
    record { full = c.if-plane.false; sides = (f.wide.1, f.high.1) }

-- `direction_lane_costs::times` meets its contract.
use native.Mathlib.Omega.{arith}
use Rattle.direction_lane_costs.proofs.times.Goals as goal

pub overflow_mul-result : goal.overflow_mul-result
overflow_mul-result c = rw c.divisor.ensures (omega (arith, c.requires.2))

pub returns : goal.returns
returns c = rw c.divisor.ensures

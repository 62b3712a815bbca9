-- `plane_fours::lanes::both` meets its contract.
use Rattle.std.proofs.Common.{rules}
use Rattle.arith_sample.specs.FromFn.{from-each}
use Rattle.plane_fours.specs.Fours.{both_lanes}
use Rattle.plane_fours.proofs.lanes.both.Goals as goal

pub returns : goal.returns
unfolding both_lanes
returns c = from-each _ _ (λ i y q e. search rules) _ 16 c.from_fn.ensures.items

-- `plane_fours::lanes::pri` meets its contract.
use Rattle.std.proofs.Common.{rules}
use Rattle.arith_sample.specs.FromFn.{from-each}
use Rattle.plane_fours.specs.Fours.{pri_lanes}
use Rattle.plane_fours.proofs.lanes.pri.Goals as goal

pub returns : goal.returns
unfolding pri_lanes
returns c = from-each _ _ (λ i y q e. search rules) _ 16 c.from_fn.ensures.items

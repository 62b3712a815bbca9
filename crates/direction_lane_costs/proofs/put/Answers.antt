-- `direction_lane_costs::put` meets its contract.
use mathlib.Core.Path.{◌≡◌, ◌∙◌}
use native.Mathlib.Omega.{arith}
use Rattle.direction_lane_costs.specs.CostsLaws.{written_none, written-more}
use Rattle.direction_lane_costs.proofs.put.Goals as goal

pub loop-l-init : goal.loop-l-init
loop-l-init c = (written_none _ _ _, omega arith)

pub loop-l-preserved : goal.loop-l-preserved
loop-l-preserved c = (written-more _ _ _ _ _ c.loop-l.invariant.0, omega arith)

pub returns : goal.returns
returns c = let e : c.loop-l.l ≡ 8 = omega arith in c.loop-l.invariant.0 ∙ rw e

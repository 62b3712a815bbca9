-- `direction_lane_costs::put` meets its contract.
use mathlib.Core.Path.{◌≡◌}
use Prim.Native.Nat.{◌≤◌}
use Rattle.direction_lane_costs.specs.Costs.{written}
use Rattle.direction_lane_costs.proofs.put.Given as goal

abbrev pub invariant-loop-l : goal.invariant-loop-l
invariant-loop-l l = (l.c ≡ written l.initial.c l.to l.q l.l) × (l.l ≤ 8)

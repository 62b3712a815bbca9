-- `direction_lane_costs::ends` meets its contract.
use mathlib.Core.Path.{◌≡◌}
use Prim.Native.Nat.{◌+◌, ◌*◌, ◌≤◌}
use lib.ListN.{length, take}
use Rattle.arith_sample.specs.Upto.{upto}
use Rattle.direction_lane_costs.specs.Costs.{end_at}
use Rattle.direction_lane_costs.proofs.ends.Given as goal

abbrev pub invariant-loop-l : goal.invariant-loop-l
invariant-loop-l l = (take (l.to + 2 * l.l) l.z ≡ upto (end_at l.p) (l.to + 2 * l.l)) × (length l.z ≡ 128) × (l.l ≤ 8)

abbrev pub invariant-loop-n : goal.invariant-loop-n
invariant-loop-n l = (take (l.n * 16) l.z ≡ upto (end_at l.p) (l.n * 16)) × (length l.z ≡ 128) × (l.n ≤ 8)

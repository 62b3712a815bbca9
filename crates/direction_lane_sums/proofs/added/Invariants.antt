-- `direction_lane_sums::added` meets its contract.
use mathlib.Core.Path.{◌≡◌}
use Rattle.direction_lane_sums.specs.Lines.{sums_of}
use Rattle.direction_lane_sums.proofs.added.Given as goal

abbrev pub invariant-loop-k : goal.invariant-loop-k
invariant-loop-k l = l.part ≡ sums_of l.initial.part l.row l.k

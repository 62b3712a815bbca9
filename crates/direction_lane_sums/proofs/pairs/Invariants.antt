-- `direction_lane_sums::pairs` meets its contract.
use mathlib.Core.Path.{◌≡◌}
use Prim.Native.Nat.{ℕ, ◌+◌, ◌*◌, ◌/◌, ◌%◌, ◌≤◌}
use lib.ListN.{length, take}
use Rattle.arith_sample.specs.Upto.{upto}
use Rattle.direction_lane_sums.specs.Lines.{neighbour_sum}
use Rattle.direction_lane_sums.proofs.pairs.Given as goal

abbrev pub invariant-loop-l : goal.invariant-loop-l
invariant-loop-l l = (take (l.to + l.l) l.v ≡ upto (λ (k : ℕ). neighbour_sum l.s (k / 64 * l.down + k / 8 % 8 * l.apart) l.next (k % 8)) (l.to + l.l)) × (length l.v ≡ 256) × (l.l ≤ 8)

abbrev pub invariant-loop-i : goal.invariant-loop-i
invariant-loop-i l = (take (l.m * 64 + l.i * 8) l.v ≡ upto (λ (k : ℕ). neighbour_sum l.s (k / 64 * l.down + k / 8 % 8 * l.apart) l.next (k % 8)) (l.m * 64 + l.i * 8)) × (length l.v ≡ 256) × (l.i ≤ 8)

abbrev pub invariant-loop-m : goal.invariant-loop-m
invariant-loop-m l = (take (l.m * 64) l.v ≡ upto (λ (k : ℕ). neighbour_sum l.s (k / 64 * l.down + k / 8 % 8 * l.apart) l.next (k % 8)) (l.m * 64)) × (length l.v ≡ 256) × (l.m ≤ 4)

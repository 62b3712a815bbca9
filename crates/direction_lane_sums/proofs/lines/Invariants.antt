-- `direction_lane_sums::lines` meets its contract.
use mathlib.Core.Path.{◌≡◌}
use Prim.Native.Nat.{ℕ, ◌*◌, ◌≤◌}
use Rattle.cdef_spec.specs.Words.{sum_ℤ}
use Rattle.arith_sample.specs.Upto.{upto}
use Rattle.direction_lane_sums.specs.Lines.{added_at, place_of}
use Rattle.direction_lane_sums.proofs.lines.Given as goal

abbrev pub invariant-loop-i : goal.invariant-loop-i
invariant-loop-i l = (l.p ≡ upto (λ (m : ℕ). sum_ℤ l.i (λ (r : ℕ). added_at l.z (place_of r l.rows l.first l.step * 8) (r * 64) 64 m)) 128) × (l.i ≤ l.rows)

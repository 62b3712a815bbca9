-- `direction_lanes::rows` meets its contract.
use mathlib.Core.Path.{◌≡◌}
use Prim.Native.Nat.{ℕ, ◌+◌, ◌*◌, ◌/◌, ◌%◌, ◌≤◌}
use lib.ListN.{length, take}
use Rattle.arith_sample.specs.Upto.{upto}
use Rattle.cdef_spec.specs.Document01.{direction_input}
use Rattle.cdef_spec.specs.Lent.{plane_in_full}
use Rattle.direction_lanes.proofs.rows.Given as goal

abbrev pub invariant-loop-k : goal.invariant-loop-k
invariant-loop-k l = (take (l.to + l.k) l.a ≡ upto (λ (n : ℕ). direction_input (plane_in_full l.plane) l.depth l.y l.x (n / 64) (n % 64)) (l.to + l.k)) × (length l.a ≡ 512) × (l.k ≤ 64)

abbrev pub invariant-loop-i : goal.invariant-loop-i
invariant-loop-i l = (take (l.i * 64) l.a ≡ upto (λ (n : ℕ). direction_input (plane_in_full l.plane) l.depth l.y l.x (n / 64) (n % 64)) (l.i * 64)) × (length l.a ≡ 512) × (l.i ≤ 8)

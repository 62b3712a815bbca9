-- `direction_levels::levels_inside` meets its contract.
use mathlib.Core.Path.{◌≡◌}
use Prim.Native.Nat.{ℕ, ◌+◌, ◌*◌, ◌/◌, ◌%◌, ◌≤◌}
use lib.ListN.{length, take}
use Rattle.cdef_spec.specs.Document01.{direction_input}
use Rattle.cdef_spec.specs.Lent.{plane_in_full}
use Rattle.arith_sample.specs.Upto.{upto}
use Rattle.direction_levels.proofs.levels_inside.Given as goal

abbrev pub invariant-loop-j : goal.invariant-loop-j
invariant-loop-j l = (take (l.to + l.j) l.b ≡ upto (λ (k : ℕ). direction_input (plane_in_full l.plane) l.depth l.y l.x (k / 8) (k % 8)) (l.to + l.j)) × (length l.b ≡ 64) × (l.j ≤ 8)

abbrev pub invariant-loop-i : goal.invariant-loop-i
invariant-loop-i l = (take (l.i * 8) l.b ≡ upto (λ (k : ℕ). direction_input (plane_in_full l.plane) l.depth l.y l.x (k / 8) (k % 8)) (l.i * 8)) × (length l.b ≡ 64) × (l.i ≤ 8)

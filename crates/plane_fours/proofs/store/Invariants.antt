-- `plane_fours::store` meets its contract.
use Rattle.std.proofs.Common.{◌≡◌, ◌-◌, ◌≤◌, length}
use Rattle.plane_rows.specs.Rows.{placed, placed_rows}
use Rattle.plane_fours.proofs.store.Given as goal

abbrev pub invariant-loop-j : goal.invariant-loop-j
invariant-loop-j l = (l.dst ≡ placed l.initial.dst l.at l.v l.from l.j) × (length l.dst ≡ length l.initial.dst) × (l.j ≤ 4)

abbrev pub decreases-loop-j : goal.decreases-loop-j
decreases-loop-j l = 4 - l.j

abbrev pub invariant-loop-i : goal.invariant-loop-i
invariant-loop-i l = (l.dst ≡ placed_rows l.initial.dst l.w l.to l.v 4 l.i) × (length l.dst ≡ length l.initial.dst) × (l.i ≤ 4)

abbrev pub decreases-loop-i : goal.decreases-loop-i
decreases-loop-i l = 4 - l.i

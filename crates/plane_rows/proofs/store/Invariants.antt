-- `plane_rows::store` meets its contract.
use mathlib.Core.Path.{◌≡◌}
use Prim.Native.Nat.{◌-◌, ◌≤◌}
use lib.ListN.{length}
use Rattle.plane_rows.specs.Rows.{placed, placed_rows}
use Rattle.plane_rows.proofs.store.Given as goal

abbrev pub invariant-loop-j : goal.invariant-loop-j
invariant-loop-j l = (l.dst ≡ placed l.initial.dst l.at l.all l.from l.j) × (length l.dst ≡ length l.initial.dst) × (l.j ≤ 8)

abbrev pub decreases-loop-j : goal.decreases-loop-j
decreases-loop-j l = 8 - l.j

abbrev pub invariant-loop-i : goal.invariant-loop-i
invariant-loop-i l = (l.dst ≡ placed_rows l.initial.dst l.w l.to l.all 8 l.i) × (length l.dst ≡ length l.initial.dst) × (l.i ≤ l.n)

abbrev pub decreases-loop-i : goal.decreases-loop-i
decreases-loop-i l = l.n - l.i

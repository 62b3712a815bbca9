-- `plane_rows::rows` meets its contract.
use mathlib.Core.Path.{◌≡◌}
use Prim.Native.Nat.{◌-◌, ◌≤◌}
use lib.ListN.{length}
use Rattle.plane_taps.specs.Steps.{taps_in}
use Rattle.plane_rows.specs.Rows.{KernelRows}
use Rattle.plane_rows.proofs.rows.Given as goal

abbrev pub invariant-loop-i : goal.invariant-loop-i
invariant-loop-i l = KernelRows l.src l.all l.w l.at (taps_in l.w l.dir) l.f l.g 8 l.i × (length l.all ≡ 64) × (l.i ≤ l.n)

abbrev pub decreases-loop-i : goal.decreases-loop-i
decreases-loop-i l = l.n - l.i

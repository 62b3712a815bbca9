-- `plane_bytes::eights::rows` meets its contract.
use Rattle.std.proofs.Common.{◌≡◌, ◌-◌, ◌*◌, ◌≤◌, length}
use Rattle.plane_rows.specs.Rows.{KernelRows}
use Rattle.plane_bytes.proofs.eights.rows.Given as goal

abbrev pub invariant-loop-i : goal.invariant-loop-i
invariant-loop-i l = KernelRows l.src l.all l.w l.at l.t l.f l.g 8 (2 * l.i) × (length l.all ≡ 64) × (l.i ≤ l.n)

abbrev pub decreases-loop-i : goal.decreases-loop-i
decreases-loop-i l = l.n - l.i

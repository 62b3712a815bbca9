-- `trial_strips::strips` meets its contract.
use mathlib.Core.Path.{◌≡◌}
use Prim.Native.Nat.{◌+◌, ◌-◌, ◌*◌, ◌≤◌}
use lib.ListN.{length}
use Rattle.trial_strips.specs.Strips.{Filled}
use Rattle.trial_strips.proofs.strips.Given as goal

abbrev pub invariant-loop-j : goal.invariant-loop-j
invariant-loop-j l = Filled l.win l.w l.n (l.x * l.n + l.i) l.j l.out × (length l.out ≡ 480) × (l.j ≤ 4)

abbrev pub invariant-loop-j-then-w-eq8 : goal.invariant-loop-j-then-w-eq8
invariant-loop-j-then-w-eq8 l = Filled l.win l.w l.n (l.x * l.n + l.i) (4 + l.j) l.out × (length l.out ≡ 480) × (l.j ≤ 4)

abbrev pub invariant-loop-i : goal.invariant-loop-i
invariant-loop-i l = Filled l.win l.w l.n (l.x * l.n + l.i) 0 l.out × (length l.out ≡ 480) × (l.i ≤ l.n)

abbrev pub decreases-loop-i : goal.decreases-loop-i
decreases-loop-i l = l.n - l.i

abbrev pub invariant-loop-x : goal.invariant-loop-x
invariant-loop-x l = Filled l.win l.w l.n (l.x * l.n) 0 l.out × (length l.out ≡ 480) × (l.x ≤ 5)

abbrev pub decreases-loop-x : goal.decreases-loop-x
decreases-loop-x l = 5 - l.x

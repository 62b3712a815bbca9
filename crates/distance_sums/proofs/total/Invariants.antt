-- `distance_sums::total` meets its contract.
use mathlib.Core.Path.{◌≡◌}
use Prim.Native.Nat.{◌-◌, ◌*◌, ◌≤◌, ◌<◌}
use lib.ListN.{get_or}
use Rattle.cdef_spec.specs.Words.{sum}
use Rattle.distance_sums.specs.Blocks.{Below, Columns}
use Rattle.distance_sums.proofs.total.Given as goal

abbrev pub invariant-loop-j : goal.invariant-loop-j
invariant-loop-j l = Columns l.a l.col l.i l.j × (l.i < 8) × (l.j ≤ 8) × Below l.a 4096 × (l.at ≡ l.i * 8)

abbrev pub decreases-loop-j : goal.decreases-loop-j
decreases-loop-j l = 8 - l.j

abbrev pub invariant-loop-i : goal.invariant-loop-i
invariant-loop-i l = Columns l.a l.col l.i 0 × (l.i ≤ 8) × Below l.a 4096

abbrev pub decreases-loop-i : goal.decreases-loop-i
decreases-loop-i l = 8 - l.i

abbrev pub invariant-loop-c : goal.invariant-loop-c
invariant-loop-c l = (l.t ≡ sum l.c-index (λ k. get_or l.c-items k 0)) × (l.c-index ≤ 8) × (l.t ≤ l.c-index * 32760) × Columns l.a l.c-items 8 0 × Below l.a 4096

abbrev pub decreases-loop-c : goal.decreases-loop-c
decreases-loop-c l = 8 - l.c-index

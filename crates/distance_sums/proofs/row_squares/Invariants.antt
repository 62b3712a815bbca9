-- `distance_sums::row_squares` meets its contract.
use mathlib.Core.Path.{◌≡◌}
use Prim.Native.Nat.{◌+◌, ◌-◌, ◌*◌, ◌≤◌}
use lib.ListN.{get_or}
use Rattle.cdef_spec.specs.Words.{sum}
use Rattle.cdef_spec.specs.Distance.{squared_difference}
use Rattle.distance_sums.proofs.row_squares.Given as goal

abbrev pub invariant-loop-j : goal.invariant-loop-j
invariant-loop-j l = (l.t ≡ sum l.j (λ k. squared_difference (get_or l.o (l.from + k) 0) (get_or l.d (l.to + k) 0))) × (l.j ≤ l.n) × (l.t ≤ l.j * 16769025)

abbrev pub decreases-loop-j : goal.decreases-loop-j
decreases-loop-j l = l.n - l.j

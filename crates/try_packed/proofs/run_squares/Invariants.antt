-- `try_packed::run_squares` meets its contract.
use mathlib.Core.Path.{◌≡◌}
use Prim.Native.Nat.{◌+◌, ◌-◌, ◌*◌, ◌≤◌}
use lib.ListN.{get_or}
use Rattle.cdef_spec.specs.Words.{sum}
use Rattle.cdef_spec.specs.Distance.{squared_difference}
use Rattle.try_packed.proofs.run_squares.Given as goal

abbrev pub invariant-loop-j : goal.invariant-loop-j
invariant-loop-j l = (l.t ≡ sum l.j (λ n. squared_difference (get_or l.a (l.k + n) 0) (get_or l.s (l.from + n) 0))) × (l.j ≤ 16) × (l.t ≤ l.j * 16769025)

abbrev pub decreases-loop-j : goal.decreases-loop-j
decreases-loop-j l = 16 - l.j

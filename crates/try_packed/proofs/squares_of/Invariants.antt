-- `try_packed::squares_of` meets its contract.
use mathlib.Core.Path.{◌≡◌}
use Prim.Native.Nat.{◌-◌, ◌*◌, ◌≤◌}
use Rattle.cdef_spec.specs.Words.{sum}
use Rattle.try_packed.specs.RowLaws.{run_squares}
use Rattle.try_packed.proofs.squares_of.Given as goal

abbrev pub invariant-loop-i : goal.invariant-loop-i
invariant-loop-i l = (l.t ≡ sum l.i (run_squares l.a l.s l.from)) × (l.i ≤ l.n) × (l.t ≤ l.i * 268304400)

abbrev pub decreases-loop-i : goal.decreases-loop-i
decreases-loop-i l = l.n - l.i

-- `distance_sums::squares` meets its contract.
use mathlib.Core.Path.{◌≡◌}
use Prim.Native.Nat.{◌-◌, ◌*◌, ◌≤◌}
use Rattle.cdef_spec.specs.Distance.{squares}
use Rattle.distance_sums.specs.Blocks.{at}
use Rattle.distance_sums.proofs.squares.Given as goal

abbrev pub invariant-loop-i : goal.invariant-loop-i
invariant-loop-i l = (l.t ≡ squares l.i l.cols (at l.o l.from l.pitch) (at l.d l.to l.step)) × (l.i ≤ l.rows) × (l.t ≤ l.i * 134152200)

abbrev pub decreases-loop-i : goal.decreases-loop-i
decreases-loop-i l = l.rows - l.i

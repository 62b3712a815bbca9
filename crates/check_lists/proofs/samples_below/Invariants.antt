-- `check_lists::samples_below` meets its contract.
use mathlib.Core.Path.{◌≡◌}
use Prim.Native.Nat.{◌-◌, ◌^◌, ◌≤◌}
use lib.Dec.{ltb}
use Rattle.cdef_spec.specs.Words.{every}
use Rattle.check_lists.specs.Quarters.{in_four}
use Rattle.check_lists.proofs.samples_below.Given as goal

abbrev pub invariant-loop-k : goal.invariant-loop-k
invariant-loop-k l = (ltb l.bits (2 ^ l.depth) ≡ every l.k (in_four l.depth l.list l.n)) × (l.k ≤ l.n)

abbrev pub decreases-loop-k : goal.decreases-loop-k
decreases-loop-k l = l.n - l.k

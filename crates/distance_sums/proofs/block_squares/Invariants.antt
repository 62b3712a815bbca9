-- `distance_sums::block_squares` meets its contract.
use mathlib.Core.Path.{◌≡◌}
use Prim.Native.Nat.{◌-◌, ◌*◌, ◌≤◌}
use lib.ListN.{get_or}
use Rattle.cdef_spec.specs.Words.{sum}
use Rattle.cdef_spec.specs.Distance.{squared_difference}
use Rattle.distance_sums.specs.Blocks.{Below, differences_of}
use Rattle.distance_sums.proofs.block_squares.Given as goal

abbrev pub invariant-loop-k : goal.invariant-loop-k
invariant-loop-k l = (l.t ≡ sum (2 * l.k) (λ n. squared_difference (get_or l.a n 0) (get_or l.b n 0))) × (l.k ≤ 32) × (l.t ≤ l.k * 33538050) × (l.v ≡ differences_of l.a l.b) × Below l.a 4096 × Below l.b 4096

abbrev pub decreases-loop-k : goal.decreases-loop-k
decreases-loop-k l = 32 - l.k

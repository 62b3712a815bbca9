-- `try_packed::packed_distances` meets its contract.
use mathlib.Core.Path.{◌≡◌}
use Prim.Native.Nat.{◌-◌, ◌≤◌}
use lib.ListN.{length, take}
use Rattle.arith_sample.specs.Upto.{upto}
use Rattle.try_packed.specs.Rows.{packed_distances}
use Rattle.try_packed.proofs.packed_distances.Given as goal

abbrev pub invariant-loop-t : goal.invariant-loop-t
invariant-loop-t l = (take l.t l.d ≡ upto (packed_distances l.original l.at l.pitch l.blocks l.rows l.cols) l.t) × (length l.d ≡ 12) × (l.t ≤ 12)

abbrev pub decreases-loop-t : goal.decreases-loop-t
decreases-loop-t l = 12 - l.t

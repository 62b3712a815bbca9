-- `try_whole::sums_of` meets its contract.
use mathlib.Core.Path.{◌≡◌}
use Prim.Native.Nat.{ℕ, ◌-◌, ◌*◌, ◌≤◌}
use lib.ListN.{length, take}
use Rattle.cdef_spec.specs.Distance.{spread, squares}
use Rattle.arith_sample.specs.Upto.{upto}
use Rattle.distance_sums.specs.Blocks.{at, cell}
use Rattle.try_whole.proofs.sums_of.Given as goal

abbrev pub invariant-loop-t : goal.invariant-loop-t
invariant-loop-t l = (take l.t l.spreads ≡ upto (λ (k : ℕ). spread (at l.blocks (k * 64) 8)) l.t) × (take l.t l.errors ≡ upto (λ (k : ℕ). squares 8 8 (cell l.a) (at l.blocks (k * 64) 8)) l.t) × (length l.spreads ≡ 12) × (length l.errors ≡ 12) × (l.t ≤ 12)

abbrev pub decreases-loop-t : goal.decreases-loop-t
decreases-loop-t l = 12 - l.t

-- `try_whole::weights_of` meets its contract.
use mathlib.Core.Path.{◌≡◌}
use Prim.Native.Nat.{ℕ, ◌-◌, ◌≤◌}
use lib.ListN.{get_or, length, take}
use Rattle.cdef_spec.specs.Distance.{weight}
use Rattle.arith_sample.specs.Upto.{upto}
use Rattle.try_whole.proofs.weights_of.Given as goal

abbrev pub invariant-loop-t : goal.invariant-loop-t
invariant-loop-t l = (take l.t l.w ≡ upto (λ (k : ℕ). weight l.c l.x (get_or l.b k 0)) l.t) × (length l.w ≡ 12) × (l.t ≤ 12) × (l.v ≡ weight l.c l.x l.last)

abbrev pub decreases-loop-t : goal.decreases-loop-t
decreases-loop-t l = 12 - l.t

-- `arith_totals::add_twelve` meets its contract.
use mathlib.Core.Path.{◌≡◌}
use Prim.Native.Nat.{ℕ, ◌≤◌}
use lib.ListN.{get_or}
use Rattle.cdef_spec.specs.LoopForm.{signed, add_turns}
use Rattle.arith_totals.specs.Turns.{plain_of}
use Rattle.arith_totals.proofs.add_twelve.Given as goal

abbrev pub invariant-loop-t : goal.invariant-loop-t
invariant-loop-t l = (l.totals ≡ signed (add_turns (plain_of l.initial.totals) l.base (λ (k : ℕ). get_or l.fn.distances k 0) l.t)) × (l.t ≤ 12)

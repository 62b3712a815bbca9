-- `direction_eight::best::best` meets its contract.
use mathlib.Core.Path.{◌≡◌}
use Prim.Native.Nat.{◌≤◌}
use Rattle.direction_eight.specs.Best.{bests_of}
use Rattle.direction_eight.proofs.best.best.Given as goal

abbrev pub invariant-loop-d : goal.invariant-loop-d
invariant-loop-d l = (l.b ≡ bests_of l.c l.d) × (l.d ≤ 8)

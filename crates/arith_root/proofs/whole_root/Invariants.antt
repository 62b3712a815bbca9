-- `arith_root::whole_root` meets its contract.
use Prim.Native.Nat.{◌^◌, ◌≤◌}
use Rattle.arith_root.specs.RootWords.{guesses_left}
use Rattle.arith_root.proofs.whole_root.Given as goal

abbrev pub invariant-loop-g : goal.invariant-loop-g
invariant-loop-g l = (2 ^ 26 ≤ l.g) × (l.g ≤ 2 ^ 28)

abbrev pub decreases-loop-g : goal.decreases-loop-g
decreases-loop-g l = guesses_left l.h l.g

-- `direction_best::best` meets its contract.
use mathlib.Core.Path.{◌≡◌, refl}
use Prim.Native.Nat.{ℕ, ◌+◌, ◌≤◌, ◌<◌}
use native.Mathlib.Decide.{ℕ_discrete}
use native.Mathlib.Omega.{arith}
use lib.ListN.{get_or}
use Rattle.direction_best.specs.BestLaws.{best_none, best-new, best-old, found-is}
use Rattle.direction_best.proofs.best.Goals as goal
use Rattle.direction_best.proofs.best.Goals.{else-most-c, then-most-c}

-- one more cost that is at most the best
up_to : (l : ℕ → ℕ) (d m m2 : ℕ) → ((k : ℕ) → k < d → l k ≤ m) → m ≤ m2 → l d ≤ m2 → (k : ℕ) → k < d + 1 → l k ≤ m2
up_to l d m m2 h g e k b = go (ℕ_discrete k d)
  where
    go : Dec (k ≡ d) → l k ≤ m2
    go (yes q) = rw q e
    go (no q) = omega (arith, h k (omega arith))

pub loop-d-init : goal.loop-d-init
loop-d-init c = (best_none _, (λ k h. absurd (omega arith)), omega arith, omega arith)

pub loop-d-preserved : goal.loop-d-preserved
loop-d-preserved c = let l : ℕ → ℕ = λ k. get_or c.args.cost.now k 0 in
    elim c.if-most-c.branch [ then-most-c w ↦ (rw (w.direction-is, w.most-is) (best-new l _ _ _ c.loop-d.invariant.0 w.if-most-c.true), rw w.most-is (up_to l _ _ _ c.loop-d.invariant.1 (omega arith) (omega arith)), omega arith, omega arith) | else-most-c w ↦ (rw (w.direction-is, w.most-is) (best-old l _ _ _ c.loop-d.invariant.0 w.if-most-c.false), rw w.most-is (up_to l _ _ _ c.loop-d.invariant.1 (omega arith) w.if-most-c.false), omega arith, omega arith) ]

pub overflow_sub-result : goal.overflow_sub-result
overflow_sub-result c = c.loop-d.invariant.1 _ (omega arith)

pub returns : goal.returns
returns c = found-is _ _ _ _ _ c.loop-d.invariant.0 (omega arith) refl

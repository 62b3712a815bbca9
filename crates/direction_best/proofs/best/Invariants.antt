-- `direction_best::best` meets its contract.
use mathlib.Core.Path.{◌≡◌}
use Prim.Native.Nat.{ℕ, ◌≤◌, ◌<◌}
use lib.ListN.{get_or}
use Rattle.direction_best.specs.Best.{best_to}
use Rattle.direction_best.proofs.best.Given as goal

abbrev pub invariant-loop-d : goal.invariant-loop-d
invariant-loop-d l = (record { best_cost = l.most; y_dir = l.direction } ≡ best_to (λ (k : ℕ). get_or l.fn.cost k 0) l.d) × ((k : ℕ) → k < l.d → get_or l.fn.cost k 0 ≤ l.most) × (l.direction < 8) × (l.d ≤ 8)

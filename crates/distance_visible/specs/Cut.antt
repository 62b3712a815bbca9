-- The distance of the visible part of a block, with constants where whole blocks are weighted. Definitions only.
use Rattle.std.specs.Prelude.{◌&&◌, cond, eqb, ℕ, ◌≤◌, Option, Some, None}
use Rattle.std.specs.Option.{ForSome}
use Rattle.cdef_spec.specs.declared.DistanceConstants.{DistanceConstants}
use Rattle.cdef_spec.specs.Distance.{squares}
use Rattle.distance_weight.specs.Weighing.{OfDepth}
use Rattle.distance_sums.specs.Blocks.{weighted_by}

-- weighted for a whole luma block, which has constants, else plain squares
unfoldable pub cut_distance : Option DistanceConstants → ℕ → ℕ → (ℕ → ℕ → ℕ) → (ℕ → ℕ → ℕ) → ℕ
cut_distance None rows cols o d = squares rows cols o d
cut_distance (Some c) rows cols o d = cond (eqb rows 8 && eqb cols 8) (weighted_by c o d) (squares rows cols o d)

-- the constants, where there are any, are a depth's
pub record Weights (w : Option DistanceConstants) (depth : ℕ) : Type 0 where
  pub flat : depth ≤ 12
  pub of_depth : ForSome w (λ c. OfDepth c depth)

-- The weighted distances of twelve trial blocks, as the code computes them. Definitions only.
use Rattle.std.specs.Prelude.{◌≡◌, List, ℕ, ◌*◌, ◌^◌, ◌<◌, Float, get_or}
use Rattle.std.specs.Float.{nan}
use Rattle.cdef_spec.specs.declared.DistanceConstants.{DistanceConstants}
use Rattle.cdef_spec.specs.Distance.{spread, squares, weight}
use Rattle.arith_sample.specs.Upto.{upto}
use Rattle.distance_weight.specs.Weighing.{Weighs, times_of}
use Rattle.distance_sums.specs.Blocks.{at, cell, weighted_by}

-- the weighted distance between 64 samples of an original and those of trial block t
unfoldable pub whole_distances : DistanceConstants → List ℕ → List ℕ → ℕ → ℕ
whole_distances c a blocks t = weighted_by c (cell a) (at blocks (t * 64) 8)

-- of the trial blocks: their spreads, their squared differences from an original, and the weights of a spread with each of them
unfoldable pub spreads_of : List ℕ → List ℕ
spreads_of blocks = upto (λ t. spread (at blocks (t * 64) 8)) 12

unfoldable pub errors_of : List ℕ → List ℕ → List ℕ
errors_of a blocks = upto (λ t. squares 8 8 (cell a) (at blocks (t * 64) 8)) 12

unfoldable pub weights_of : DistanceConstants → ℕ → List ℕ → List Float
weights_of c x b = upto (λ t. weight c x (get_or b t 0)) 12

-- the distances from squares and weights
unfoldable pub times_at : List ℕ → List Float → ℕ → ℕ
times_at e w t = times_of (get_or e t 0) (get_or w t nan)

-- squares e and weights w give the weighted distances
pub record Weighed (c : DistanceConstants) (a blocks e : List ℕ) (w : List Float) : Type 0 where
  pub weighs : (t : ℕ) → t < 12 → Weighs (get_or w t nan) (get_or e t 0)
  pub is : (t : ℕ) → t < 12 → times_at e w t ≡ whole_distances c a blocks t
  pub low : (t : ℕ) → t < 12 → times_at e w t < 2 ^ 53

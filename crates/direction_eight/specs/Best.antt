-- The best direction of each of eight blocks, in the code's form. Definitions only.
use Rattle.std.specs.Prelude.{List, ℕ, ◌+◌, ◌-◌, ◌*◌, ◌%◌, get_or, ℤ}
use Rattle.cdef_spec.specs.Words.{◌>>◌}
use Rattle.cdef_spec.specs.Standard.{best, direction, variance}
use Rattle.arith_sample.specs.Upto.{upto}
use Rattle.direction_best.specs.Best.{best_to}
use Rattle.direction_eight.specs.declared.best.Best8.{Best8}
use Rattle.direction_eight.specs.declared.Found8.{Found8}
use Rattle.direction_lane_sums.specs.Lines.{lane_of}

-- the costs of lane l
unfoldable pub lane_cost : List ℕ → ℕ → ℕ → ℕ
lane_cost c l d = get_or c (d * 8 + l) 0

-- the best of the first n directions
unfoldable pub bests_of : List ℕ → ℕ → Best8
bests_of c n = record {
  directions = upto (λ l. (best_to (lane_cost c l) n).y_dir) 8;
  most = upto (λ l. (best_to (lane_cost c l) n).best_cost) 8;
}

-- the direction and the variance of each lane by its costs
unfoldable pub lane_direction : List ℕ → ℕ → ℕ
lane_direction c l = (best (lane_cost c l)).y_dir

unfoldable pub lane_variance : List ℕ → ℕ → ℕ
lane_variance c l = ((best (lane_cost c l)).best_cost - lane_cost c l (((best (lane_cost c l)).y_dir + 4) % 8)) >> 10

unfoldable pub found_by_costs : List ℕ → Found8
found_by_costs c = record { directions = upto (lane_direction c) 8; variances = upto (lane_variance c) 8 }

-- the standard's direction and variance of each lane
unfoldable pub found_by_samples : List ℤ → Found8
found_by_samples s = record { directions = upto (λ l. direction (lane_of s l)) 8; variances = upto (λ l. variance (lane_of s l)) 8 }

-- The costs of line sums and the best of them, in the code's form. Definitions only.
use Rattle.std.specs.Prelude.{ℕ, ◌≤◌, ◌<◌, List, [], ◌∷◌, get_or}
use Rattle.cdef_spec.specs.Standard.{cost_straight, cost_diagonal, cost_between}
use Rattle.direction_lines.specs.declared.Partials.{Partials}
use Rattle.cdef_spec.specs.declared.Found.{Found}
use Rattle.direction_costs.specs.Costs.{entry}
use Rattle.direction_best.specs.Best.{best_of}

unfoldable pub cost_list : Partials → List ℕ
cost_list p =
    cost_diagonal (entry p.d0)
    ∷ cost_between (entry p.d1)
    ∷ cost_straight (entry p.d2)
    ∷ cost_between (entry p.d3)
    ∷ cost_diagonal (entry p.d4)
    ∷ cost_between (entry p.d5)
    ∷ cost_straight (entry p.d6)
    ∷ cost_between (entry p.d7)
    ∷ []

-- no cost above 64 * 128 * 128 * 840, that of 64 values of -128, the largest there is
pub record CostsFit (p : Partials) : Type 0 where
  pub all : (d : ℕ) → d < 8 → get_or (cost_list p) d 0 ≤ 880803840

unfoldable pub found_of : Partials → Found
unfolding best_of cost_list
found_of p = best_of (cost_list p)

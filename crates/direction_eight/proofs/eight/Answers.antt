-- `direction_eight::eight` meets its contract.
use mathlib.Core.Path.{ap, ◌∙◌}
use Rattle.direction_eight.specs.Best.{found_by_costs}
use Rattle.direction_eight.specs.BestLaws.{founds-are}
use Rattle.direction_eight.proofs.eight.Goals as goal

pub costs-requires : goal.costs-requires
costs-requires c = c.requires

pub returns : goal.returns
returns c = c.found.ensures ∙ ap found_by_costs c.costs.ensures ∙ founds-are _

-- `direction_block::cdef_direction_cost` meets its contract.
use mathlib.Core.Path.{ap, ◌∙◌}
use Rattle.direction_block.specs.Found.{found_of}
use Rattle.direction_best.specs.Best.{best_of}
use Rattle.direction_block.proofs.cdef_direction_cost.Goals as goal

pub returns : goal.returns
returns c = unfold found_of in c.best.ensures ∙ ap best_of c.costs.ensures

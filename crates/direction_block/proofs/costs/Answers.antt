-- `direction_block::costs` meets its contract.
use native.Mathlib.Omega.{arith}
use Rattle.direction_block.specs.Found.{cost_list}
use Rattle.direction_block.proofs.costs.Goals as goal

pub cost_diagonal-requires : goal.cost_diagonal-requires
cost_diagonal-requires c = unfold cost_list in c.requires.all 0 (omega arith)

pub cost_between-requires : goal.cost_between-requires
cost_between-requires c = unfold cost_list in c.requires.all 1 (omega arith)

pub cost_straight-requires : goal.cost_straight-requires
cost_straight-requires c = unfold cost_list in c.requires.all 2 (omega arith)

pub cost_between-requires-2 : goal.cost_between-requires-2
cost_between-requires-2 c = unfold cost_list in c.requires.all 3 (omega arith)

pub cost_diagonal-requires-2 : goal.cost_diagonal-requires-2
cost_diagonal-requires-2 c = unfold cost_list in c.requires.all 4 (omega arith)

pub cost_between-requires-3 : goal.cost_between-requires-3
cost_between-requires-3 c = unfold cost_list in c.requires.all 5 (omega arith)

pub cost_straight-requires-2 : goal.cost_straight-requires-2
cost_straight-requires-2 c = unfold cost_list in c.requires.all 6 (omega arith)

pub cost_between-requires-4 : goal.cost_between-requires-4
cost_between-requires-4 c = unfold cost_list in c.requires.all 7 (omega arith)

pub returns : goal.returns
returns c = unfold cost_list in rw (c.cost_diagonal.ensures, c.cost_between.ensures, c.cost_straight.ensures, c.cost_between-2.ensures, c.cost_diagonal-2.ensures, c.cost_between-3.ensures, c.cost_straight-2.ensures, c.cost_between-4.ensures)

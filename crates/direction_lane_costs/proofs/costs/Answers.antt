-- `direction_lane_costs::costs` meets its contract.
use mathlib.Core.Path.{refl, sym}
use Rattle.arith_sample.specs.Upto.{upto-none, upto_all}
use Rattle.direction_lane_costs.specs.Costs.{costs_of}
use Rattle.direction_lane_costs.proofs.costs.Goals as goal

pub first_costs-requires : goal.first_costs-requires
first_costs-requires c = record { costs_to = record { size = refl; first = sym (upto-none _) }; within = c.requires }

pub last_costs-requires : goal.last_costs-requires
last_costs-requires c = record { costs_to = c.first_costs.ensures; within = c.requires }

pub returns : goal.returns
returns c = unfold costs_of in let t = c.last_costs.ensures in upto_all _ _ 64 64 t.first t.size refl

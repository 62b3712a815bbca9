-- `direction_costs::cost_straight` meets its contract.
use mathlib.Core.Path.{sym}
use native.Mathlib.Omega.{arith}
use Rattle.direction_costs.specs.Costs.{entry}
use Rattle.direction_costs.specs.CostsLaws.{straight-is}
use Rattle.direction_costs.proofs.cost_straight.Goals as goal

pub two-requires : goal.two-requires
two-requires c = (omega arith, omega arith, omega arith, omega arith, omega (arith, straight-is (entry c.args.l.now), c.requires))

pub two-requires-2 : goal.two-requires-2
two-requires-2 c = (omega arith, omega arith, omega arith, omega arith, omega (arith, straight-is (entry c.args.l.now), c.requires))

pub overflow_add-result : goal.overflow_add-result
overflow_add-result c = record { fits = omega (arith, straight-is (entry c.args.l.now), c.requires, c.two.ensures, c.two-2.ensures) }

pub two-requires-3 : goal.two-requires-3
two-requires-3 c = (omega arith, omega arith, omega arith, omega arith, omega (arith, straight-is (entry c.args.l.now), c.requires))

pub overflow_add-result-2 : goal.overflow_add-result-2
overflow_add-result-2 c = record { fits = omega (arith, straight-is (entry c.args.l.now), c.requires, c.two.ensures, c.two-2.ensures, c.two-3.ensures) }

pub two-requires-4 : goal.two-requires-4
two-requires-4 c = (omega arith, omega arith, omega arith, omega arith, omega (arith, straight-is (entry c.args.l.now), c.requires))

pub overflow_add-result-3 : goal.overflow_add-result-3
overflow_add-result-3 c = record { fits = omega (arith, straight-is (entry c.args.l.now), c.requires, c.two.ensures, c.two-2.ensures, c.two-3.ensures, c.two-4.ensures) }

pub returns : goal.returns
returns c = rw (c.two.ensures, c.two-2.ensures, c.two-3.ensures, c.two-4.ensures) (sym (straight-is (entry c.args.l.now)))

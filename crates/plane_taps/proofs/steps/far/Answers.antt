-- `plane_taps::steps::far` meets its contract.
use Rattle.std.proofs.Common.{◌+◌, ◌-◌, ◌*◌, ◌≤◌, mul-le-mul_right, refl, arith}
use Rattle.plane_taps.specs.StepLaws.{far-is}
use Rattle.plane_taps.proofs.steps.far.Goals as goal
use Rattle.plane_taps.proofs.steps.far.Goals.{After-min-row}

row_low : (c : After-min-row) → c.min-row.result * c.before.args.w ≤ 4 * c.before.args.w
row_low c = let h : c.min-row.result ≤ 4 = omega (arith, c.min-row.ensures) in mul-le-mul_right c.before.args.w h

col-low : (c : After-min-row) → (4 + c.min-row.result - c.before.args.dir) * c.before.args.p ≤ 4 * c.before.args.p
col-low c = let h : 4 + c.min-row.result - c.before.args.dir ≤ 4 = omega (arith, c.min-row.ensures) in mul-le-mul_right c.before.args.p h

pub overflow_mul-result : goal.overflow_mul-result
overflow_mul-result c = omega (arith, row_low c)

pub overflow_mul-result-2 : goal.overflow_mul-result-2
overflow_mul-result-2 c = omega (arith, col-low c)

pub overflow_add-result-2 : goal.overflow_add-result-2
overflow_add-result-2 c = omega (arith, row_low c, col-low c)

pub returns : goal.returns
returns c = far-is c.args.w c.args.p _ c.requires.1 c.requires.2 c.args.dir c.min-row.result c.requires.0 c.min-row.ensures refl

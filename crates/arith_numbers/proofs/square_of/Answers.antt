-- `arith_numbers::square_of` meets its contract.
use native.Mathlib.Omega.{arith}
use mathlib.Core.Path.{ap}
use lib.IntN.{nat_abs}
use Rattle.arith_numbers.proofs.Squares.{square-low, wide_fits, product-fits, product-back}
use Rattle.arith_numbers.proofs.square_of.Goals as goal

pub overflow_cast-w : goal.overflow_cast-w
overflow_cast-w c = wide_fits _ c.ranges.v

pub overflow_mul-result : goal.overflow_mul-result
overflow_mul-result c = product-fits _ c.ranges.v

pub overflow_cast-result : goal.overflow_cast-result
overflow_cast-result c = rw (product-back c.args.v c.ranges.v) (tt, record { fits = omega (arith, square-low c.args.v c.ranges.v) })

pub returns : goal.returns
returns c = ap nat_abs (product-back c.args.v c.ranges.v)

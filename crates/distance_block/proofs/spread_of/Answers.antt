-- `distance_block::spread_of` meets its contract.
use mathlib.Core.Path.{refl}
use native.Mathlib.Omega.{arith}
use Rattle.distance_block.specs.WeightedLaws.{zeros-below, square-low, spread-is}
use Rattle.distance_block.proofs.spread_of.Goals as goal

pub total-s-requires : goal.total-s-requires
total-s-requires c = c.requires

pub block_squares-s2-requires : goal.block_squares-s2-requires
block_squares-s2-requires c = (c.requires, zeros-below)

pub overflow_mul-result : goal.overflow_mul-result
overflow_mul-result c = omega (arith, square-low c.args.a.now _ _ _ refl c.total-s.ensures c.block_squares-s2.ensures)

pub overflow_add-result : goal.overflow_add-result
overflow_add-result c = omega (arith, square-low c.args.a.now _ _ _ refl c.total-s.ensures c.block_squares-s2.ensures)

pub overflow_sub-result : goal.overflow_sub-result
overflow_sub-result c = omega (arith, square-low c.args.a.now _ _ _ refl c.total-s.ensures c.block_squares-s2.ensures)

pub returns : goal.returns
returns c = spread-is _ _ _ _ refl c.total-s.ensures c.block_squares-s2.ensures

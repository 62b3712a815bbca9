-- `distance_block::block_distance` meets its contract.
use native.Mathlib.Omega.{arith}
use Rattle.distance_sums.specs.BlockLaws.{below-4096, squares-64}
use Rattle.distance_block.specs.WeightedLaws.{spread-high, squares-high, weighted-64}
use Rattle.distance_block.proofs.block_distance.Goals as goal

pub spread_of-x-requires : goal.spread_of-x-requires
spread_of-x-requires c = let p = c.requires in below-4096 _ p.0 p.1.flat p.2

pub spread_of-y-requires : goal.spread_of-y-requires
spread_of-y-requires c = let p = c.requires in below-4096 _ p.0 p.1.flat p.3

pub block_squares-e-requires : goal.block_squares-e-requires
block_squares-e-requires c = let p = c.requires in (below-4096 _ p.0 p.1.flat p.2, below-4096 _ p.0 p.1.flat p.3)

pub weighted-requires : goal.weighted-requires
weighted-requires c = let s = c.args in
    let p = c.requires in (
      p.0,
      p.1,
      omega (arith, c.spread_of-x.ensures, spread-high _ p.0 p.2),
      omega (arith, c.spread_of-y.ensures, spread-high _ p.0 p.3),
      omega (arith, c.block_squares-e.ensures, squares-64 s.a.now s.b.now, squares-high _ p.0 p.2 _ p.3),
    )

pub returns : goal.returns
returns c = weighted-64 _ _ _ _ _ _ _ c.spread_of-x.ensures c.spread_of-y.ensures c.block_squares-e.ensures c.weighted.ensures

-- `try_whole::sums_of` meets its contract.
--
use mathlib.Core.Path.{refl, sym}
use native.Mathlib.Omega.{arith}
use lib.ListN.{length-set}
use Rattle.arith_sample.specs.Upto.{upto-none, upto-more, upto_all}
use Rattle.distance_sums.specs.BlockLaws.{below-4096}
use Rattle.try_whole.specs.Whole.{spreads_of, errors_of}
use Rattle.try_whole.specs.WholeLaws.{trial-below, spread-so, error-so}
use Rattle.try_whole.proofs.sums_of.Goals as goal

pub loop-t-init : goal.loop-t-init
loop-t-init c = (sym (upto-none _), sym (upto-none _), refl, refl, omega arith)

pub block_of-b-requires : goal.block_of-b-requires
block_of-b-requires c = (c.requires.3 c.loop-t.t c.loop-t-test.true).held

pub spread_of-requires : goal.spread_of-requires
spread_of-requires c = rw c.block_of-b.ensures (below-4096 _ c.requires.0 c.requires.1 (trial-below _ _ c.requires.0 c.loop-t.t c.requires.1 c.requires.2 (c.requires.3 _ c.loop-t-test.true)))

pub block_squares-requires : goal.block_squares-requires
block_squares-requires c = (below-4096 _ c.requires.0 c.requires.1 c.requires.2, rw c.block_of-b.ensures (below-4096 _ c.requires.0 c.requires.1 (trial-below _ _ c.requires.0 c.loop-t.t c.requires.1 c.requires.2 (c.requires.3 _ c.loop-t-test.true))))

pub loop-t-preserved : goal.loop-t-preserved
loop-t-preserved c = let l = c.loop-t in
    let p = c.requires in
    let w = p.3 _ c.loop-t-test.true in (
      upto-more _ _ _ _ l.invariant.0 (omega arith) (spread-so _ _ p.0 l.t p.1 p.2 w _ _ c.block_of-b.ensures c.spread_of.ensures),
      upto-more _ _ _ _ l.invariant.1 (omega arith) (error-so _ _ p.0 l.t p.1 p.2 w _ _ c.block_of-b.ensures c.block_squares.ensures),
      simp length-set l.invariant.2,
      simp length-set l.invariant.3,
      omega arith,
    )

pub returns : goal.returns
returns c = let l = c.loop-t in
    ((unfold spreads_of in upto_all _ _ 12 _ l.invariant.0 l.invariant.2 (omega arith)), (unfold errors_of in upto_all _ _ 12 _ l.invariant.1 l.invariant.3 (omega arith)))

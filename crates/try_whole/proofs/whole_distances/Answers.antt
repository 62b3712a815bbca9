-- `try_whole::whole_distances` meets its contract.
use Rattle.std.proofs.Common.{◌∙◌}
use Rattle.arith_sample.specs.Upto.{upto-ext}
use Rattle.distance_sums.specs.BlockLaws.{below-4096}
use Rattle.try_whole.specs.WholeLaws.{own-limit, spreads-limit, weighed}
use Rattle.try_whole.proofs.whole_distances.Goals as goal

pub spread_of-x-requires : goal.spread_of-x-requires
spread_of-x-requires c = let p = c.requires in below-4096 _ p.0 p.1.flat p.2

pub sums_of-s-requires : goal.sums_of-s-requires
sums_of-s-requires c = let p = c.requires in (p.0, p.1.flat, p.2, p.3)

pub weights_of-w-requires : goal.weights_of-w-requires
weights_of-w-requires c = let p = c.requires in
    let x = c.spread_of-x.ensures in
    (p.0, p.1, own-limit _ p.0 _ _ p.1 p.2 p.3 _ x, spreads-limit _ p.0 _ _ p.1 p.2 p.3 _ x _ c.sums_of-s.ensures.0)

pub weighted_errors-requires : goal.weighted_errors-requires
weighted_errors-requires c = let p = c.requires in
    let s = c.sums_of-s.ensures in
    (weighed _ p.0 _ _ p.1 p.2 p.3 _ c.spread_of-x.ensures _ _ _ s.0 s.1 c.weights_of-w.ensures).weighs

pub returns : goal.returns
returns c = let p = c.requires in
    let s = c.sums_of-s.ensures in
    c.weighted_errors.ensures ∙ upto-ext _ _ 12 (weighed _ p.0 _ _ p.1 p.2 p.3 _ c.spread_of-x.ensures _ _ _ s.0 s.1 c.weights_of-w.ensures).is

-- `filter_rows::alone::sample` meets its contract.
use Rattle.std.proofs.Common.{◌∙◌, arith}
use Rattle.filter_rows.specs.PairsLaws.{held-pairs, alone-free}
use Rattle.filter_rows.proofs.Bounds.{size-alone, small-back}
use Rattle.arith_sample.proofs.Joins.{back_is}
use Rattle.filter_rows.proofs.alone.sample.Goals as goal

pub sum-requires : goal.sum-requires
sum-requires g c = (rw c.load_pairs-e.ensures (held-pairs _ _ _ c.requires.2), c.requires.2.all c.args.k, c.requires.4)

pub free-requires : goal.free-requires
free-requires g c = (c.requires.2.all c.args.k, small-back {m = 7680} (record { is = c.sum.ensures; small = size-alone _ _ c.args.f c.requires.4 _ }) (omega arith) (omega arith))

pub returns : goal.returns
returns g c = c.free.ensures ∙ rw (back_is {m = 7680} (record { is = c.sum.ensures; small = size-alone _ _ c.args.f c.requires.4 _ }) (omega arith), c.load_pairs-e.ensures) (alone-free _ _ _ c.requires.2 c.args.f _)

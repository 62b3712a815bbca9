-- `plane_taps::load::load` meets its contract.
use Rattle.std.proofs.Common.{refl, arith}
use Rattle.filter_rows.specs.Place.{on_from, back_from}
use Rattle.filter_rows.specs.Pairs.{pair_of}
use Rattle.plane_taps.proofs.load.load.Goals as goal

pub offset_bounds-src-k : goal.offset_bounds-src-k
unfolding on_from
offset_bounds-src-k c = omega (arith, c.requires.on)

pub bounds-src-k : goal.bounds-src-k
unfolding on_from
bounds-src-k c = c.requires.on

pub offset_bounds-src-k-2 : goal.offset_bounds-src-k-2
unfolding back_from
offset_bounds-src-k-2 c = omega (arith, c.requires.back)

pub bounds-src-k-2 : goal.bounds-src-k-2
unfolding back_from
bounds-src-k-2 c = c.requires.back

pub returns : goal.returns
unfolding pair_of on_from back_from
returns c = refl

-- `plane_fours::lanes::pri_at` meets its contract.
use Rattle.std.proofs.Common.{◌∙◌, arith}
use Rattle.arith_sample.proofs.Joins.{back_is}
use Rattle.filter_rows.proofs.Bounds.{small-back}
use Rattle.plane_taps.specs.PlainLaws.{size-pri}
use Rattle.plane_rows.specs.LaneLaws.{below, free-is}
use Rattle.plane_fours.specs.Fours.{pri_lane}
use Rattle.plane_fours.specs.RunLaws.{held-pair}
use Rattle.plane_fours.proofs.lanes.pri_at.Goals as goal

pub pri_sum-s-requires : goal.pri_sum-s-requires
pri_sum-s-requires c = let r = c.requires in
    (held-pair _ _ _ r.2.on0 r.2.back0 c.pair.ensures, held-pair _ _ _ r.2.on1 r.2.back1 c.pair-2.ensures, omega (arith, below c.args.c.now r.1 c.args.j), r.3)

pub raised-requires : goal.raised-requires
raised-requires c = (omega (arith, below c.args.c.now c.requires.1 c.args.j), small-back {m = 3840} (record { is = c.pri_sum-s.ensures; small = size-pri _ c.args.f c.requires.3 _ _ }) (omega arith) (omega arith))

pub returns : goal.returns
unfolding pri_lane
returns c = free-is c.args.c.now c.requires.1 c.args.j _ _ _ (back_is {m = 3840} (record { is = c.pri_sum-s.ensures ∙ rw (c.pair.ensures, c.pair-2.ensures); small = size-pri _ c.args.f c.requires.3 _ _ }) (omega arith)) c.raised.ensures

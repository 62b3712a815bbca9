-- `plane_fours::lanes::sec_at` meets its contract.
use Rattle.std.proofs.Common.{◌∙◌, arith}
use Rattle.arith_sample.proofs.Joins.{back_is}
use Rattle.filter_rows.proofs.Bounds.{small-back}
use Rattle.plane_taps.specs.PlainLaws.{size-sec}
use Rattle.plane_rows.specs.LaneLaws.{below, free-is}
use Rattle.plane_fours.specs.Fours.{sec_lane}
use Rattle.plane_fours.specs.RunLaws.{held-pair}
use Rattle.plane_fours.proofs.lanes.sec_at.Goals as goal

pub sec_sum-requires : goal.sec_sum-requires
sec_sum-requires c = let r = c.requires in
    (held-pair _ _ _ r.2.on0 r.2.back0 c.pair-q0.ensures, held-pair _ _ _ r.2.on1 r.2.back1 c.pair-q1.ensures, held-pair _ _ _ r.3.on0 r.3.back0 c.pair-r0.ensures, held-pair _ _ _ r.3.on1 r.3.back1 c.pair-r1.ensures, omega (arith, below c.args.c.now r.1 c.args.j), r.4)

pub raised-requires : goal.raised-requires
raised-requires c = (omega (arith, below c.args.c.now c.requires.1 c.args.j), small-back {m = 7680} (record { is = c.sec_sum.ensures; small = size-sec _ c.args.f c.requires.4 _ _ _ _ }) (omega arith) (omega arith))

pub returns : goal.returns
unfolding sec_lane
returns c = free-is c.args.c.now c.requires.1 c.args.j _ _ _ (back_is {m = 7680} (record { is = c.sec_sum.ensures ∙ rw (c.pair-q0.ensures, c.pair-q1.ensures, c.pair-r0.ensures, c.pair-r1.ensures); small = size-sec _ c.args.f c.requires.4 _ _ _ _ }) (omega arith)) c.raised.ensures

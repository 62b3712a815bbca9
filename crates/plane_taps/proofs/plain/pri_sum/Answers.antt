-- `plane_taps::plain::pri_sum` meets its contract.
use Rattle.std.proofs.Common.{◌∙◌, arith}
use Rattle.arith_sample.proofs.Joins.{Is, back_is}
use Rattle.filter_rows.proofs.Bounds.{small-back}
use Rattle.plane_taps.specs.Plain.{pair_plain, pri_plain}
use Rattle.plane_taps.specs.PlainLaws.{size-pair, size-pri}
use Rattle.plane_taps.proofs.plain.pri_sum.Goals as goal
use Rattle.plane_taps.proofs.plain.pri_sum.Goals.{After-pair_sum, After-pair_sum-2}

one : (c : After-pair_sum) → let a = c.before.args in Is c.pair_sum.result (pair_plain a.p0 a.c a.f.s a.f.sh) 480
one c = let s = c.before in
    let a = s.args in
    record { is = c.pair_sum.ensures; small = size-pair a.p0 a.c a.f.s a.f.sh s.requires.3.s }

other : (c : After-pair_sum-2) → let a = c.before.before.args in Is c.pair_sum-2.result (pair_plain a.p1 a.c a.f.s a.f.sh) 480
other c = let s = c.before.before in
    let a = s.args in
    record { is = c.pair_sum-2.ensures; small = size-pair a.p1 a.c a.f.s a.f.sh s.requires.3.s }

pub weigh-requires : goal.weigh-requires
weigh-requires c = (small-back (one c.before) (omega arith) (omega arith), small-back (other c) (omega arith) (omega arith), c.before.before.requires.3)

pub returns : goal.returns
unfolding pri_plain
returns c = let s = c.before.before.before in
    let a = s.args in
    back_is {m = 3840} (record { is = c.weigh.ensures ∙ rw (back_is (one c.before.before) (omega arith), back_is (other c.before) (omega arith)); small = size-pri a.c a.f s.requires.3 a.p0 a.p1 }) (omega arith)

-- `plane_taps::plain::pair_sum` meets its contract.
use Rattle.std.proofs.Common.{arith}
use Rattle.arith_sample.specs.Sample.{con_of}
use Rattle.arith_sample.specs.SampleLaws.{size-con}
use Rattle.arith_sample.proofs.Joins.{Is, add_ok, add_is, back_is}
use Rattle.plane_taps.specs.Plain.{pair_plain}
use Rattle.plane_taps.proofs.plain.pair_sum.Goals as goal
use Rattle.plane_taps.proofs.plain.pair_sum.Goals.{After-constrain_tap, After-constrain_tap-2}

one : (c : After-constrain_tap) → let a = c.before.args in Is c.constrain_tap.result (con_of a.p.on a.c a.s a.sh) 240
one c = let s = c.before in
    let a = s.args in
    record { is = c.constrain_tap.ensures; small = omega (arith, size-con a.p.on a.c a.s a.sh, s.requires.2) }

other : (c : After-constrain_tap-2) → let a = c.before.before.args in Is c.constrain_tap-2.result (con_of a.p.back a.c a.s a.sh) 240
other c = let s = c.before.before in
    let a = s.args in
    record { is = c.constrain_tap-2.ensures; small = omega (arith, size-con a.p.back a.c a.s a.sh, s.requires.2) }

pub add-requires : goal.add-requires
add-requires c = add_ok (one c.before) (other c) (omega arith)

pub returns : goal.returns
unfolding pair_plain
returns c = back_is (add_is (one c.before.before) (other c.before) (omega arith) c.add.ensures) (omega arith)

-- `plane_taps::plain::sec_sum` meets its contract.
use Rattle.std.proofs.Common.{◌+ℤ◌, ◌∙◌, arith}
use Rattle.arith_sample.proofs.Joins.{Is, add_ok, add_is, back_is}
use Rattle.filter_rows.proofs.Bounds.{small-back}
use Rattle.plane_taps.specs.Plain.{pair_plain, sec_plain}
use Rattle.plane_taps.specs.PlainLaws.{size-pair, size-sec}
use Rattle.plane_taps.proofs.plain.sec_sum.Goals as goal
use Rattle.plane_taps.proofs.plain.sec_sum.Goals.{After-add-a, After-add-b, After-pair_sum, After-pair_sum-2, After-pair_sum-3, After-pair_sum-4}

p1 : (c : After-pair_sum) → let a = c.before.args in Is c.pair_sum.result (pair_plain a.q0 a.c a.f.s a.f.sh) 480
p1 c = let s = c.before in
    record { is = c.pair_sum.ensures; small = size-pair _ _ _ _ s.requires.5.s }

p2 : (c : After-pair_sum-2) → let a = c.before.before.args in Is c.pair_sum-2.result (pair_plain a.r0 a.c a.f.s a.f.sh) 480
p2 c = let s = c.before.before in
    record { is = c.pair_sum-2.ensures; small = size-pair _ _ _ _ s.requires.5.s }

near : (c : After-add-a) → let a = c.before.before.before.args in Is c.add-a.result (pair_plain a.q0 a.c a.f.s a.f.sh +ℤ pair_plain a.r0 a.c a.f.s a.f.sh) 960
near c = add_is (p1 c.before.before) (p2 c.before) (omega arith) c.add-a.ensures

p3 : (c : After-pair_sum-3) → let a = c.before.before.before.before.args in Is c.pair_sum-3.result (pair_plain a.q1 a.c a.f.s a.f.sh) 480
p3 c = let s = c.before.before.before.before in
    record { is = c.pair_sum-3.ensures; small = size-pair _ _ _ _ s.requires.5.s }

p4 : (c : After-pair_sum-4) → let a = c.before.before.before.before.before.args in Is c.pair_sum-4.result (pair_plain a.r1 a.c a.f.s a.f.sh) 480
p4 c = let s = c.before.before.before.before.before in
    record { is = c.pair_sum-4.ensures; small = size-pair _ _ _ _ s.requires.5.s }

far : (c : After-add-b) → let a = c.before.before.before.before.before.before.args in Is c.add-b.result (pair_plain a.q1 a.c a.f.s a.f.sh +ℤ pair_plain a.r1 a.c a.f.s a.f.sh) 960
far c = add_is (p3 c.before.before) (p4 c.before) (omega arith) c.add-b.ensures

pub add-a-requires : goal.add-a-requires
add-a-requires c = add_ok (p1 c.before) (p2 c) (omega arith)

pub add-b-requires : goal.add-b-requires
add-b-requires c = add_ok (p3 c.before) (p4 c) (omega arith)

pub weigh-requires : goal.weigh-requires
weigh-requires c = (small-back (near c.before.before.before) (omega arith) (omega arith), small-back (far c) (omega arith) (omega arith), c.before.before.before.before.before.before.requires.5)

pub returns : goal.returns
unfolding sec_plain
returns c = let s = c.before.before.before.before.before.before.before in
    let a = s.args in
    back_is {m = 7680} (record { is = c.weigh.ensures ∙ rw (back_is (near c.before.before.before.before) (omega arith), back_is (far c.before) (omega arith)); small = size-sec a.c a.f s.requires.5 a.q0 a.q1 a.r0 a.r1 }) (omega arith)

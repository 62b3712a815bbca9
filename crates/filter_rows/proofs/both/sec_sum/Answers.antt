-- `filter_rows::both::sec_sum` meets its contract.
use Rattle.std.proofs.Common.{◌+ℤ◌, ◌∙◌, arith}
use Rattle.filter_rows.specs.Pairs.{pair_sum, sec_sum}
use Rattle.filter_rows.proofs.Bounds.{size-pair-sum, size-sec-sum, small-back}
use Rattle.arith_sample.proofs.Joins.{Is, add_ok, add_is, back_is}
use Rattle.filter_rows.proofs.both.sec_sum.Goals as goal
use Rattle.filter_rows.proofs.both.sec_sum.Goals.{After-add-a, After-add-b, After-pair_sum, After-pair_sum-2, After-pair_sum-3, After-pair_sum-4}

one : (c : After-pair_sum) → let a = c.before.args in Is c.pair_sum.result (pair_sum a.e.q0 a.c a.f.s a.f.sh) 480
one c = let s = c.before in
    let a = s.args in
    record { is = c.pair_sum.ensures; small = size-pair-sum a.e.q0 a.c a.f.s a.f.sh s.requires.2.s }

two : (c : After-pair_sum-2) → let a = c.before.before.args in Is c.pair_sum-2.result (pair_sum a.e.r0 a.c a.f.s a.f.sh) 480
two c = let s = c.before.before in
    let a = s.args in
    record { is = c.pair_sum-2.ensures; small = size-pair-sum a.e.r0 a.c a.f.s a.f.sh s.requires.2.s }

three : (c : After-pair_sum-3) → let a = c.before.before.before.before.args in Is c.pair_sum-3.result (pair_sum a.e.q1 a.c a.f.s a.f.sh) 480
three c = let s = c.before.before.before.before in
    let a = s.args in
    record { is = c.pair_sum-3.ensures; small = size-pair-sum a.e.q1 a.c a.f.s a.f.sh s.requires.2.s }

four : (c : After-pair_sum-4) → let a = c.before.before.before.before.before.args in Is c.pair_sum-4.result (pair_sum a.e.r1 a.c a.f.s a.f.sh) 480
four c = let s = c.before.before.before.before.before in
    let a = s.args in
    record { is = c.pair_sum-4.ensures; small = size-pair-sum a.e.r1 a.c a.f.s a.f.sh s.requires.2.s }

near : (c : After-add-a) → let a = c.before.before.before.args in Is c.add-a.result (pair_sum a.e.q0 a.c a.f.s a.f.sh +ℤ pair_sum a.e.r0 a.c a.f.s a.f.sh) 960
near c = add_is (one c.before.before.before) (two c.before) (omega arith) c.add-a.ensures

far : (c : After-add-b) → let a = c.before.before.before.before.before.before.args in Is c.add-b.result (pair_sum a.e.q1 a.c a.f.s a.f.sh +ℤ pair_sum a.e.r1 a.c a.f.s a.f.sh) 960
far c = add_is (three c.before.before.before) (four c.before) (omega arith) c.add-b.ensures

pub add-a-requires : goal.add-a-requires
add-a-requires c = add_ok (one c.before.before) (two c) (omega arith)

pub add-b-requires : goal.add-b-requires
add-b-requires c = add_ok (three c.before.before) (four c) (omega arith)

pub weigh-requires : goal.weigh-requires
weigh-requires c = (small-back (near c.before.before.before.before.before) (omega arith) (omega arith), small-back (far c) (omega arith) (omega arith), c.before.before.before.before.before.before.requires.2)

pub returns : goal.returns
unfolding sec_sum
returns c = let s = c.before.before.before.before.before.before.before in
    let a = s.args in
    back_is {m = 7680} (record { is = c.weigh.ensures ∙ rw (back_is (near c.before.before.before.before.before.before) (omega arith), back_is (far c.before) (omega arith)); small = size-sec-sum a.e a.c a.f s.requires.2 }) (omega arith)

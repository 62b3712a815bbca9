-- `filter_rows::both::pri_sum` meets its contract.
use Rattle.std.proofs.Common.{◌∙◌, arith}
use Rattle.filter_rows.specs.Pairs.{pair_sum, pri_sum}
use Rattle.filter_rows.proofs.Bounds.{size-pair-sum, size-pri-sum, small-back}
use Rattle.arith_sample.proofs.Joins.{Is, back_is}
use Rattle.filter_rows.proofs.both.pri_sum.Goals as goal
use Rattle.filter_rows.proofs.both.pri_sum.Goals.{After-pair_sum, After-pair_sum-2}

one : (c : After-pair_sum) → let a = c.before.args in Is c.pair_sum.result (pair_sum a.e.p0 a.c a.f.s a.f.sh) 480
one c = let s = c.before in
    let a = s.args in
    record { is = c.pair_sum.ensures; small = size-pair-sum a.e.p0 a.c a.f.s a.f.sh s.requires.2.s }

other : (c : After-pair_sum-2) → let a = c.before.before.args in Is c.pair_sum-2.result (pair_sum a.e.p1 a.c a.f.s a.f.sh) 480
other c = let s = c.before.before in
    let a = s.args in
    record { is = c.pair_sum-2.ensures; small = size-pair-sum a.e.p1 a.c a.f.s a.f.sh s.requires.2.s }

pub weigh-requires : goal.weigh-requires
weigh-requires c = (small-back (one c.before.before) (omega arith) (omega arith), small-back (other c) (omega arith) (omega arith), c.before.before.requires.2)

pub returns : goal.returns
unfolding pri_sum
returns c = let s = c.before.before.before in
    let a = s.args in
    back_is {m = 3840} (record { is = c.weigh.ensures ∙ rw (back_is (one c.before.before.before) (omega arith), back_is (other c.before) (omega arith)); small = size-pri-sum a.e a.c a.f s.requires.2 }) (omega arith)

-- `filter_rows::both::pair_sum` meets its contract.
use Rattle.std.proofs.Common.{arith}
use Rattle.filter_rows.specs.Pairs.{con_tap, pair_sum}
use Rattle.filter_rows.proofs.Bounds.{size-tap}
use Rattle.arith_sample.proofs.Joins.{Is, add_ok, add_is, back_is}
use Rattle.filter_rows.proofs.both.pair_sum.Goals as goal
use Rattle.filter_rows.proofs.both.pair_sum.Goals.{After-constrain, After-constrain-2}

one : (c : After-constrain) → let a = c.before.args in Is c.constrain.result (con_tap a.p.on a.c a.f.s a.f.sh) 240
one c = let s = c.before in
    let a = s.args in
    record { is = c.constrain.ensures; small = omega (arith, size-tap a.p.on a.c a.f.s a.f.sh, s.requires.2.s) }

other : (c : After-constrain-2) → let a = c.before.before.args in Is c.constrain-2.result (con_tap a.p.back a.c a.f.s a.f.sh) 240
other c = let s = c.before.before in
    let a = s.args in
    record { is = c.constrain-2.ensures; small = omega (arith, size-tap a.p.back a.c a.f.s a.f.sh, s.requires.2.s) }

pub add-requires : goal.add-requires
add-requires c = add_ok (one c.before) (other c) (omega arith)

pub returns : goal.returns
unfolding pair_sum
returns c = back_is (add_is (one c.before.before) (other c.before) (omega arith) c.add.ensures) (omega arith)

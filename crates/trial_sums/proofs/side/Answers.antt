-- `trial_sums::side` meets its contract.
use native.Mathlib.Omega.{arith}
use Rattle.arith_sample.proofs.Joins.{Is, add_ok, add_is, back_is}
use Rattle.plane_taps.specs.Plain.{pair_plain}
use Rattle.plane_taps.specs.PlainLaws.{size-pair}
use Rattle.trial_sums.specs.Raw.{side_of}
use Rattle.trial_sums.proofs.side.Goals as goal
use Rattle.trial_sums.proofs.side.Goals.{After-pair_sum, After-pair_sum-2}

one : (c : After-pair_sum) → let a = c.before.args in Is c.pair_sum.result (pair_plain a.q a.c a.s a.sh) 480
one c = let s = c.before in record { is = c.pair_sum.ensures; small = size-pair s.args.q s.args.c s.args.s s.args.sh s.requires.3 }

other : (c : After-pair_sum-2) → let a = c.before.before.args in Is c.pair_sum-2.result (pair_plain a.r a.c a.s a.sh) 480
other c = let s = c.before.before in record { is = c.pair_sum-2.ensures; small = size-pair s.args.r s.args.c s.args.s s.args.sh s.requires.3 }

pub add-requires : goal.add-requires
add-requires c = add_ok (one c.before) (other c) (omega arith)

pub returns : goal.returns
unfolding side_of
returns c = back_is (add_is (one c.before.before) (other c.before) (omega arith) c.add.ensures) (omega arith)

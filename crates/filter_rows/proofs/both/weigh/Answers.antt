-- `filter_rows::both::weigh` meets its contract.
use Rattle.std.proofs.Common.{refl, arith}
use Rattle.filter_rows.specs.Pairs.{weighed}
use Rattle.arith_sample.proofs.Joins.{Is, add_ok, add_is, back_is, scale_ok, scale-is}
use Rattle.filter_rows.proofs.both.weigh.Goals as goal
use Rattle.filter_rows.proofs.both.weigh.Goals.{Start}

near : (s : Start) → Is s.args.a s.args.a 960
near s = record { is = refl; small = s.requires.0 }

far : (s : Start) → Is s.args.b s.args.b 960
far s = record { is = refl; small = s.requires.1 }

pub scale-requires : goal.scale-requires
scale-requires c = scale_ok (near c) c.requires.2.w0 (omega arith) (omega arith) (omega arith)

pub scale-requires-2 : goal.scale-requires-2
scale-requires-2 c = scale_ok (far c.before) c.before.requires.2.w1 (omega arith) (omega arith) (omega arith)

pub add-requires : goal.add-requires
add-requires c = let s = c.before.before in
    add_ok (scale-is (near s) s.requires.2.w0 (omega arith) (omega arith) (omega arith) c.before.scale.ensures) (scale-is (far s) s.requires.2.w1 (omega arith) (omega arith) (omega arith) c.scale-2.ensures) (omega arith)

pub returns : goal.returns
unfolding weighed
returns c = let s = c.before.before.before in
    back_is (add_is (scale-is (near s) s.requires.2.w0 (omega arith) (omega arith) (omega arith) c.before.before.scale.ensures) (scale-is (far s) s.requires.2.w1 (omega arith) (omega arith) (omega arith) c.before.scale-2.ensures) (omega arith) c.add.ensures) (omega arith)

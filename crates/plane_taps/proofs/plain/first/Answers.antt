-- `plane_taps::plain::first` meets its contract.
use Rattle.arith_sample.proofs.Joins.{back_is}
use Rattle.plane_taps.specs.PlainLaws.{low_held, size-pri}
use Rattle.std.proofs.Common.{arith}
use Rattle.plane_taps.specs.Plain.{limit_two, first_of}
use Rattle.plane_taps.proofs.plain.first.Goals as goal

pub pri_sum-requires : goal.pri_sum-requires
pri_sum-requires c = (low_held c.requires.0, low_held c.requires.1, omega (arith, c.requires.2), c.requires.3)

pub returns : goal.returns
unfolding first_of limit_two
returns c = let a = c.args in
    let e = back_is {m = 3840} (record { is = c.pri_sum.ensures; small = size-pri a.c a.f c.requires.3 a.p0 a.p1 }) (omega arith) in
    rw (e, c.min.ensures, c.limit_two.ensures.0, c.max.ensures, c.limit_two-2.ensures.0)

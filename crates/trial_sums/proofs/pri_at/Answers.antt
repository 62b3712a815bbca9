-- `trial_sums::pri_at` meets its contract.
use Rattle.std.proofs.Common.{◌+◌, ◌∙◌, arith}
use Rattle.arith_sample.proofs.Joins.{back_is}
use Rattle.plane_taps.specs.ReachLaws.{reached-all}
use Rattle.trial_sums.specs.Raw.{pri_raw}
use Rattle.trial_sums.specs.RawLaws.{held-pair, size-raw}
use Rattle.trial_sums.proofs.pri_at.Goals as goal

pub load-requires : goal.load-requires
load-requires c = (reached-all c.requires.0 c.args.j c.requires.3).p0

pub load-requires-2 : goal.load-requires-2
load-requires-2 c = (reached-all c.requires.0 c.args.j c.requires.3).p1

pub pri_sum-requires : goal.pri_sum-requires
pri_sum-requires c = (held-pair _ _ _ _ c.requires.1 c.load.ensures, held-pair _ _ _ _ c.requires.1 c.load-2.ensures, c.requires.1.all _, c.requires.2)

pub returns : goal.returns
unfolding pri_raw
returns c = back_is {m = 3840} (record { is = c.pri_sum.ensures ∙ rw (c.load.ensures, c.load-2.ensures); small = size-raw c.args.t.now (c.args.at + c.args.j) c.args.o c.args.f c.requires.2 }) (omega arith)

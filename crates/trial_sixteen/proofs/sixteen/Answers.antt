-- `trial_sixteen::sixteen` meets its contract.
use Rattle.std.proofs.Common.{◌+◌}
use Rattle.trial_sixteen.specs.Sixteen.{taps_or}
use Rattle.trial_sixteen.specs.SixteenLaws.{centres-held, one-held, two-held, twelve-is}
use Rattle.trial_sixteen.proofs.sixteen.Goals as goal

pub first_four-requires : goal.first_four-requires
first_four-requires c = let a = c.args in let q = c.requires in let b = centres-held a.l.now (a.from + a.k) a.own (taps_or a.own a.zero) a.u _ _ _ _ _ (record { centre = c.centre-c.ensures; pri = c.pri_sums-p.ensures; limits = c.limits_of-e.ensures; zero_is = c.zero_sums-z.ensures _ c.sec_sums-s.ensures; own_is = c.sec_sums-s.ensures }) q.samples.0 q.samples.1 in (q.run_fits.0, q.run_fits.1, b.0, b.1)

pub four-requires-clause-held : goal.four-requires-clause-held
four-requires-clause-held c = let a = c.args in one-held a.l.now (a.from + a.k) a.own (taps_or a.own a.zero) a.u _ _ _ _ _ (record { centre = c.centre-c.ensures; pri = c.pri_sums-p.ensures; limits = c.limits_of-e.ensures; zero_is = c.zero_sums-z.ensures _ c.sec_sums-s.ensures; own_is = c.sec_sums-s.ensures }) c.requires.samples.0 c.requires.samples.1

pub four-requires-2-clause-held : goal.four-requires-2-clause-held
four-requires-2-clause-held c = let a = c.args in two-held a.l.now (a.from + a.k) a.own (taps_or a.own a.zero) a.u _ _ _ _ _ (record { centre = c.centre-c.ensures; pri = c.pri_sums-p.ensures; limits = c.limits_of-e.ensures; zero_is = c.zero_sums-z.ensures _ c.sec_sums-s.ensures; own_is = c.sec_sums-s.ensures }) c.requires.samples.0 c.requires.samples.1

pub returns : goal.returns
returns c = let a = c.args in twelve-is a.l.now a.from a.k a.own (taps_or a.own a.zero) a.u _ _ _ _ _ (record { centre = c.centre-c.ensures; pri = c.pri_sums-p.ensures; limits = c.limits_of-e.ensures; zero_is = c.zero_sums-z.ensures _ c.sec_sums-s.ensures; own_is = c.sec_sums-s.ensures }) a.out.now _ _ _ c.first_four.ensures c.four.ensures c.four-2.ensures

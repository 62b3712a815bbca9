-- `trial_sixteen::zero_sums` meets its contract.
use Rattle.trial_sixteen.specs.Sixteen.{taps_or}
use Rattle.trial_sixteen.proofs.zero_sums.Goals as goal

pub returns-in-None : goal.returns-in-None
unfolding taps_or
returns-in-None c = λ o k. rw c.in-None.is k

pub returns-in-Some : goal.returns-in-Some
unfolding taps_or
returns-in-Some c = λ o k. rw c.in-Some.is c.sec_sums.ensures

-- `arith_trials::is_trial_pair` meets its contract.
use mathlib.Core.Path.{◌∙◌}
use Rattle.arith_trials.specs.TrialLaws.{is-trial}
use Rattle.arith_trials.proofs.is_trial_pair.Goals as goal

pub returns : goal.returns
returns c = c.is_some.ensures ∙ is-trial _ _ c.trial_of.ensures.number

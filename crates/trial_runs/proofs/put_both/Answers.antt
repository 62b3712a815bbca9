-- `trial_runs::put_both` meets its contract.
use mathlib.Core.Path.{◌∙◌}
use Rattle.trial_runs.specs.RunLaws.{run-clipped}
use Rattle.trial_runs.proofs.put_both.Goals as goal

pub returns : goal.returns
returns c = c.before.before.put_run.ensures ∙ run-clipped _ _ _ _ _ _ _ _ _ c.before.before.before.both_run.ensures

-- `trial_runs::put_free` meets its contract.
use mathlib.Core.Path.{◌∙◌}
use Rattle.trial_runs.specs.RunLaws.{run-raised}
use Rattle.trial_runs.proofs.put_free.Goals as goal

pub returns : goal.returns
returns c = c.before.before.put_run.ensures ∙ run-raised _ _ _ _ _ _ c.before.before.before.free_run.ensures

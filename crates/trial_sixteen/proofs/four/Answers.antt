-- `trial_sixteen::four` meets its contract.
use mathlib.Core.Path.{◌∙◌}
use Rattle.trial_sixteen.proofs.four.Goals as goal

pub returns : goal.returns
returns c = c.put_both-3.ensures ∙ rw (c.put_both-2.ensures, c.put_both.ensures, c.put_free.ensures)

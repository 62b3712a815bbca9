-- `try_whole::weight_after` meets its contract.
use mathlib.Core.Path.{◌∙◌}
use Rattle.try_whole.proofs.weight_after.Goals as goal

pub returns-then-b-last : goal.returns-then-b-last
returns-then-b-last c = c.before.requires.last_weight ∙ rw c.if-b-last.true

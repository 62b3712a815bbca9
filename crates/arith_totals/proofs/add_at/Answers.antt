-- `arith_totals::add_at` meets its contract.
use mathlib.Core.Path.{sym, ◌∙◌}
use Rattle.arith_totals.specs.AddLaws.{small-once, add-fits, add_is}
use Rattle.arith_totals.proofs.add_at.Goals as goal

pub overflow_add-totals : goal.overflow_add-totals
overflow_add-totals c = let k = c.requires in add-fits _ _ k.2.1 k.2.2 _ _ k.1

pub returns : goal.returns
returns c = let k = c.requires in λ t e. add_is _ t e (small-once _ t (sym k.2.1 ∙ e) k.2.2) _ _ k.1

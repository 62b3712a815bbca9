-- `filter_limits::highest` meets its contract.
use Rattle.filter_limits.specs.Limits.{limit_of}
use Rattle.filter_limits.proofs.highest.Goals as goal

pub returns : goal.returns
unfolding limit_of
returns c = c.limit.ensures

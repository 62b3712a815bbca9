-- `filter_limits::pair_limit` meets its contract.
use Rattle.std.proofs.Common.{◌∙◌}
use Rattle.filter_limits.specs.LimitsLaws.{further-le, pair-is}
use Rattle.filter_limits.proofs.pair_limit.Goals as goal

pub returns : goal.returns
returns g c = (
  c.further.ensures ∙ rw (c.seen.ensures.0, c.seen-2.ensures.0) (pair-is _ c.args.p),
  rw c.further.ensures (further-le _ _ _ _ c.seen.ensures.1 c.seen-2.ensures.1),
)

-- `filter_limits::limit` meets its contract.
use Rattle.std.proofs.Common.{◌∙◌}
use Rattle.filter_limits.specs.LimitsLaws.{further-le, limit-is}
use Rattle.filter_limits.proofs.limit.Goals as goal

pub returns : goal.returns
returns g c = (
  c.further-3.ensures
      ∙ rw (
        c.further.ensures,
        c.further-2.ensures,
        c.further-p.ensures,
        c.further-q.ensures,
        c.further-r.ensures,
        c.pair_limit.ensures.0,
        c.pair_limit-2.ensures.0,
        c.pair_limit-3.ensures.0,
        c.pair_limit-4.ensures.0,
        c.pair_limit-5.ensures.0,
        c.pair_limit-6.ensures.0,
      ) (limit-is _ c.args.e c.args.c),
  rw c.further-3.ensures (further-le _ _ _ _
      (rw c.further.ensures (further-le _ _ _ _
      (rw c.further-p.ensures (further-le _ _ _ _ c.pair_limit.ensures.1 c.pair_limit-2.ensures.1))
      (rw c.further-q.ensures (further-le _ _ _ _ c.pair_limit-3.ensures.1 c.pair_limit-4.ensures.1))))
      (rw c.further-2.ensures (further-le _ _ _ _ (rw c.further-r.ensures (further-le _ _ _ _ c.pair_limit-5.ensures.1 c.pair_limit-6.ensures.1)) c.requires.1))),
)

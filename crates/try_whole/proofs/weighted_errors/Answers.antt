-- `try_whole::weighted_errors` meets its contract.
use Rattle.std.proofs.Common.{rules}
use Rattle.arith_sample.specs.FromFn.{from-each}
use Rattle.try_whole.specs.Whole.{times_at}
use Rattle.try_whole.proofs.weighted_errors.Goals as goal

pub returns : goal.returns
unfolding times_at
returns c = from-each _ _ (λ i y q e. search rules) _ 12 c.from_fn.ensures.items

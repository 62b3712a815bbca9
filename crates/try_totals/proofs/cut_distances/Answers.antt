-- `try_totals::cut_distances` meets its contract.
use Rattle.std.proofs.Common.{rules}
use Rattle.arith_sample.specs.FromFn.{from-each}
use Rattle.try_totals.specs.Totals.{trial_distances}
use Rattle.try_totals.proofs.cut_distances.Goals as goal

pub returns : goal.returns
unfolding trial_distances
returns c = from-each _ _ (λ i y q e. search rules) _ 12 c.from_fn.ensures.items

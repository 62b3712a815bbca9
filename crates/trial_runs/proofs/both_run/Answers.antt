-- `trial_runs::both_run` meets its contract.
use Rattle.std.proofs.Common.{rules}
use Rattle.arith_sample.specs.FromFn.{from-each}
use Rattle.trial_runs.specs.Runs.{clipped_at}
use Rattle.trial_runs.proofs.both_run.Goals as goal

pub returns : goal.returns
unfolding clipped_at
returns c = from-each _ _ (λ i y q e. search rules) _ 16 c.from_fn.ensures.items

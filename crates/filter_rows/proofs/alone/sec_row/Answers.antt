-- `filter_rows::alone::sec_row` meets its contract.
use Rattle.std.proofs.Common.{rules}
use Rattle.arith_sample.specs.FromFn.{from-each}
use Rattle.filter_rows.specs.Sums.{alone_at}
use Rattle.filter_rows.proofs.alone.sec_row.Goals as goal

pub returns : goal.returns
unfolding alone_at
returns c = from-each _ _ (λ i y q e. search rules) _ 8 c.from_fn.ensures.items

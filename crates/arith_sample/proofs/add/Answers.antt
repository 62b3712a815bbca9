-- `arith_sample::add` meets its contract.
use Rattle.arith_sample.proofs.Sums16.{sum_fits, sum_back}
use Rattle.arith_sample.proofs.add.Goals as goal

pub overflow_add-result : goal.overflow_add-result
overflow_add-result c = sum_fits c.args.a c.args.b c.requires

pub returns : goal.returns
returns c = sum_back c.args.a c.args.b c.requires

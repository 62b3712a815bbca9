-- `arith_sample::scale` meets its contract.
use Rattle.arith_sample.proofs.Sums16.{weighed-fits, weighed-back}
use Rattle.arith_sample.proofs.scale.Goals as goal

pub overflow_mul-result : goal.overflow_mul-result
overflow_mul-result c = weighed-fits c.args.k c.args.a c.requires.0 c.requires.1 c.requires.2

pub returns : goal.returns
returns c = weighed-back c.args.k c.args.a c.requires.0 c.requires.1 c.requires.2

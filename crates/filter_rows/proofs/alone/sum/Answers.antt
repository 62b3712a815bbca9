-- `filter_rows::alone::sum` meets its contract.
use Rattle.std.proofs.Common.{arith}
use borrow.Author.Tests.{ne_eqb}
use Rattle.arith_sample.proofs.Joins.{back_is}
use Rattle.filter_rows.specs.Pairs.{alone_sum}
use Rattle.filter_rows.proofs.Bounds.{size-pri-sum, size-sec-sum}
use Rattle.filter_rows.proofs.alone.sum.Goals as goal

pub returns-then-this-ne0 : goal.returns-then-this-ne0
unfolding alone_sum
returns-then-this-ne0 g c = rw (ne_eqb g.row.WHICH 0 c.if-this-ne0.true) (back_is {m = 7680} (record { is = c.sec_sum.ensures; small = size-sec-sum c.args.e c.args.c c.args.f c.requires.2 }) (omega arith))

pub returns-else-this-ne0 : goal.returns-else-this-ne0
unfolding alone_sum
returns-else-this-ne0 g c = rw c.if-this-ne0.false (back_is {m = 3840} (record { is = c.pri_sum.ensures; small = size-pri-sum c.args.e c.args.c c.args.f c.requires.2 }) (omega arith))

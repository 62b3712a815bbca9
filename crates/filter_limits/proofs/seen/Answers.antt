-- `filter_limits::seen` meets its contract.
use Rattle.std.proofs.Common.{refl, arith}
use borrow.Author.Tests.{ne_eqb}
use Rattle.filter_limits.specs.Limits.{seen_of}
use Rattle.filter_limits.specs.LimitsLaws.{unmarked-rest}
use Rattle.filter_limits.proofs.seen.Goals as goal

pub returns-then-this-ne0 : goal.returns-then-this-ne0
unfolding seen_of
returns-then-this-ne0 g c = (rw (ne_eqb g.row.LIMIT 0 c.if-this-ne0.true) (unmarked-rest c.args.t c.requires), omega arith)

pub returns-else-this-ne0 : goal.returns-else-this-ne0
unfolding seen_of
returns-else-this-ne0 g c = rw c.if-this-ne0.false (refl, c.requires)

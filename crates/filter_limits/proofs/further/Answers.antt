-- `filter_limits::further` meets its contract.
use borrow.Author.Tests.{ne_eqb}
use Rattle.filter_limits.specs.Limits.{further_of}
use Rattle.filter_limits.proofs.further.Goals as goal

pub returns-then-this-ne0 : goal.returns-then-this-ne0
unfolding further_of
returns-then-this-ne0 g c = rw (ne_eqb g.row.LIMIT 0 c.if-this-ne0.true) c.max.ensures

pub returns-else-this-ne0 : goal.returns-else-this-ne0
unfolding further_of
returns-else-this-ne0 g c = rw c.if-this-ne0.false c.min.ensures

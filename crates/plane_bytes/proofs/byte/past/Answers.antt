-- `plane_bytes::byte::past` meets its contract.
use borrow.Author.Tests.{ne_eqb}
use Rattle.plane_bytes.specs.Byte.{past_of}
use Rattle.plane_bytes.proofs.byte.past.Goals as goal

pub returns-then-this-ne0 : goal.returns-then-this-ne0
unfolding past_of
returns-then-this-ne0 g c = rw (ne_eqb g.row.SIDE 0 c.if-this-ne0.true) c.saturating_sub.ensures

pub returns-else-this-ne0 : goal.returns-else-this-ne0
unfolding past_of
returns-else-this-ne0 g c = rw c.if-this-ne0.false c.saturating_sub-else-this-ne0.ensures

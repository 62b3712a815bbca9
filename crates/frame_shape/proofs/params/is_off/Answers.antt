-- `frame_shape::params::is_off` meets its contract.
use borrow.Author.Tests.{eq-eqb, ne_eqb}
use Rattle.frame_shape.proofs.params.is_off.Goals as goal

pub returns-then-p-eq0 : goal.returns-then-p-eq0
returns-then-p-eq0 c = rw (eq-eqb _ 0 c.if-p-eq0.true)

pub returns-else-p-eq0 : goal.returns-else-p-eq0
returns-else-p-eq0 c = rw (ne_eqb _ 0 c.if-p-eq0.false)

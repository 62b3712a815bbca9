-- `frame_shape::checked::ShapedPicture::dir_for` meets its contract.
use Rattle.std.proofs.Common.{eq-eqb, ne_eqb}
use Rattle.frame_shape.proofs.checked.ShapedPicture.dir_for.Goals as goal

pub returns-then-s-eq0 : goal.returns-then-s-eq0
returns-then-s-eq0 c = rw (eq-eqb _ 0 c.if-s-eq0.true)

pub returns : goal.returns
returns c = rw (ne_eqb _ 0 c.if-s-eq0.false) c.dir_of.ensures

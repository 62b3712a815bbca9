-- `frame_shape::checked::ShapedPicture::is_luma` meets its contract.
use Rattle.std.proofs.Common.{refl}
use Rattle.cdef_spec.specs.Lent.{kind_in, picture_in}
use Rattle.frame_shape.specs.Shape.{is_luma}
use Rattle.frame_shape.proofs.checked.ShapedPicture.is_luma.Goals as goal

pub returns-in-Luma : goal.returns-in-Luma
unfolding picture_in kind_in is_luma
returns-in-Luma c = rw c.in-Luma.is refl

pub returns-in_default : goal.returns-in_default
unfolding picture_in kind_in is_luma
returns-in_default c = rw c.in_default.is refl

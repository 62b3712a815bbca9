-- `frame_shape::checked::ShapedPicture::plane_height` meets its contract.
use Rattle.cdef_spec.specs.Lent.{picture_in}
use Rattle.cdef_spec.specs.Picture.{plane_height}
use Rattle.frame_shape.proofs.checked.ShapedPicture.plane_height.Goals as goal

pub returns : goal.returns
unfolding plane_height picture_in
returns c = rw c.subsampling.ensures.values.1 at c.subsampled.ensures.0

-- `frame_shape::checked::ShapedPicture::plane_width` meets its contract.
use Rattle.cdef_spec.specs.Lent.{picture_in}
use Rattle.cdef_spec.specs.Picture.{plane_width}
use Rattle.frame_shape.proofs.checked.ShapedPicture.plane_width.Goals as goal

pub returns : goal.returns
unfolding plane_width picture_in
returns c = rw c.subsampling.ensures.values.0 at c.subsampled.ensures.0

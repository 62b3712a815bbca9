-- `frame_shape::checked::ShapedPicture::way_of` meets its contract.
use Rattle.std.proofs.Common.{refl}
use Rattle.cdef_spec.specs.Lent.{kind_in, picture_in}
use Rattle.frame_shape.specs.Frame.{way_of}
use Rattle.frame_shape.proofs.checked.ShapedPicture.way_of.Goals as goal

pub variance_of-requires : goal.variance_of-requires
unfolding picture_in kind_in
variance_of-requires c = rw c.in-Luma.is at c.requires

pub returns-in-Luma : goal.returns-in-Luma
unfolding picture_in kind_in way_of
returns-in-Luma c = rw (c.in-Luma.is, c.variance_of.ensures)

pub returns-in-Chroma : goal.returns-in-Chroma
unfolding picture_in kind_in way_of
returns-in-Chroma c = rw c.in-Chroma.is refl

-- `frame_shape::checked::ShapedPicture::damping_of` meets its contract.
use Rattle.cdef_spec.specs.Lent.{kind_in, picture_in}
use Rattle.frame_shape.specs.Frame.{damping_of}
use Rattle.frame_shape.proofs.checked.ShapedPicture.damping_of.Goals as goal

pub returns-in-Luma : goal.returns-in-Luma
unfolding picture_in kind_in damping_of
returns-in-Luma c = rw c.in-Luma.is c.luma_damping.ensures

pub returns-in-Chroma : goal.returns-in-Chroma
unfolding picture_in kind_in damping_of
returns-in-Chroma c = rw c.in-Chroma.is c.chroma_damping.ensures

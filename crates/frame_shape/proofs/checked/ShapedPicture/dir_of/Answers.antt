-- `frame_shape::checked::ShapedPicture::dir_of` meets its contract.
use Rattle.std.proofs.Common.{refl}
use Rattle.cdef_spec.specs.Lent.{kind_in, picture_in}
use Rattle.cdef_spec.specs.Picture.{sub_x, sub_y}
use Rattle.frame_shape.specs.Frame.{dir_of}
use Rattle.frame_shape.specs.ShapeLaws.{flags-low}
use Rattle.frame_shape.proofs.checked.ShapedPicture.dir_of.Goals as goal

pub returns-in-Luma : goal.returns-in-Luma
unfolding picture_in kind_in dir_of
returns-in-Luma c = rw c.in-Luma.is refl

pub chroma_direction-requires : goal.chroma_direction-requires
unfolding picture_in kind_in sub_x sub_y
chroma_direction-requires c = let l = rw c.in-Chroma.is at (flags-low _ c.args.self.now.shaped.flags) in (l.0, l.1, c.requires.1)

pub returns-in-Chroma : goal.returns-in-Chroma
unfolding picture_in kind_in dir_of
returns-in-Chroma c = rw c.in-Chroma.is c.chroma_direction.ensures

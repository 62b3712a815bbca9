-- `frame_shape::checked::ShapedPicture::subsampling` meets its contract.
use Rattle.std.proofs.Common.{refl}
use Rattle.cdef_spec.specs.Picture.{sub_x, sub_y}
use Rattle.cdef_spec.specs.Lent.{kind_in, picture_in}
use Rattle.frame_shape.specs.ShapeLaws.{flags-low}
use Rattle.frame_shape.proofs.checked.ShapedPicture.subsampling.Goals as goal

pub returns-in-Luma-clause-values : goal.returns-in-Luma-clause-values
unfolding picture_in kind_in sub_x sub_y
returns-in-Luma-clause-values c = rw c.in-Luma.is (refl, refl)

pub returns-in-Chroma-clause-values : goal.returns-in-Chroma-clause-values
unfolding picture_in kind_in sub_x sub_y
returns-in-Chroma-clause-values c = rw c.in-Chroma.is (refl, refl)

pub returns-in-Chroma-clause-flags : goal.returns-in-Chroma-clause-flags
unfolding picture_in kind_in sub_x sub_y
returns-in-Chroma-clause-flags c = rw c.in-Chroma.is at (flags-low _ c.args.self.now.shaped.flags)

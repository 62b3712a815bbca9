-- `frame_shape::checked::ShapedPicture::visible_rows` meets its contract.
use Rattle.std.proofs.Common.{◌∙◌}
use Rattle.cdef_spec.specs.Picture.{visible_rows}
use Rattle.frame_shape.specs.ShapeLaws.{rounded}
use Rattle.frame_shape.proofs.checked.ShapedPicture.visible_rows.Goals as goal

pub returns : goal.returns
unfolding visible_rows
returns c = rw c.subsampling.ensures.values.1 at (c.visible_side.ensures ∙ rounded _ _ c.subsampling.ensures.flags.1)

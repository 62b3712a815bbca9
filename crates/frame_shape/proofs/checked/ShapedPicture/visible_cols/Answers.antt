-- `frame_shape::checked::ShapedPicture::visible_cols` meets its contract.
use Rattle.std.proofs.Common.{◌∙◌}
use Rattle.cdef_spec.specs.Picture.{visible_cols}
use Rattle.frame_shape.specs.ShapeLaws.{rounded}
use Rattle.frame_shape.proofs.checked.ShapedPicture.visible_cols.Goals as goal

pub returns : goal.returns
unfolding visible_cols
returns c = rw c.subsampling.ensures.values.0 at (c.visible_side.ensures ∙ rounded _ _ c.subsampling.ensures.flags.0)

-- `frame_shape::checked::ShapedPicture::block_of` meets its contract.
use Rattle.cdef_spec.specs.Picture.{block_width, block_height}
use Rattle.frame_shape.specs.Frame.{block_of}
use Rattle.frame_shape.proofs.checked.ShapedPicture.block_of.Goals as goal

pub returns : goal.returns
unfolding block_of block_width block_height
returns c = rw (c.subsampled-width.ensures.0, c.subsampled-height.ensures.0, c.subsampling-sx.ensures.values.0, c.subsampling-sx.ensures.values.1)

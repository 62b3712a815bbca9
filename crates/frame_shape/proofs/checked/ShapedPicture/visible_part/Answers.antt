-- `frame_shape::checked::ShapedPicture::visible_part` meets its contract.
use Rattle.std.proofs.Common.{arith}
use Rattle.frame_shape.specs.ShapeLaws.{corner-is, part-is}
use Rattle.frame_shape.proofs.checked.ShapedPicture.visible_part.Goals as goal

pub overflow_sub-rows : goal.overflow_sub-rows
overflow_sub-rows c = omega (arith, (corner-is _ _ _ _ c.block_of-b.ensures).1, c.visible_rows.ensures, c.requires.begun.0)

pub overflow_sub-cols : goal.overflow_sub-cols
overflow_sub-cols c = omega (arith, (corner-is _ _ _ _ c.block_of-b.ensures).0, c.visible_cols.ensures, c.requires.begun.1)

pub returns : goal.returns
returns c = rw (c.min.ensures, c.min-2.ensures) (part-is _ _ _ _ _ _ _ c.block_of-b.ensures c.visible_rows.ensures c.visible_cols.ensures)

-- `frame_shape::checked::ListedPicture::counted` meets its contract.
use Rattle.cdef_spec.specs.Lent.{picture_in}
use Rattle.frame_shape.specs.CountedLaws.{skipped, below, begun}
use Rattle.frame_shape.proofs.checked.ListedPicture.counted.Goals as goal

pub returns-then-self-block_at-ne0 : goal.returns-then-self-block_at-ne0
unfolding picture_in
returns-then-self-block_at-ne0 c = skipped _ _ _ _ (rw c.block_at.ensures at c.if-self-block_at-ne0.true)

pub returns-then-b-visible_rows : goal.returns-then-b-visible_rows
unfolding picture_in
returns-then-b-visible_rows c = begun _ _ _ _ _ c.block_of-b.ensures _ c.visible_rows.ensures (rw c.block_at.ensures at c.if-self-block_at-ne0.false) c.if-b-visible_rows.true _ c.visible_cols.ensures

pub returns-else-b-visible_rows : goal.returns-else-b-visible_rows
returns-else-b-visible_rows c = below _ _ _ _ _ c.block_of-b.ensures _ c.visible_rows.ensures c.if-b-visible_rows.false

-- `apply_blocks::apply_block` meets its contract.
use Rattle.std.proofs.Common.{arith}
use Rattle.cdef_spec.specs.Lent.{picture_in}
use Rattle.cdef_spec.specs.GeometryLaws.{unit-low}
use Rattle.frame_shape.specs.ShapeLaws.{counts-low, number-low}
use Rattle.apply_blocks.specs.BlockLaws.{room, filtered-is, skipped, off, on}
use Rattle.apply_blocks.proofs.apply_block.Goals as goal

pub block_at-requires : goal.block_at-requires
block_at-requires g c = counts-low _ c.args.i.now.listed.shaped.shaped _ _ c.requires.inside.0 c.requires.inside.1

pub bounds-shaped-block_at : goal.bounds-shaped-block_at
unfolding picture_in
bounds-shaped-block_at g c = let l = c.args.i.now.listed in omega (arith, c.block_at.ensures, number-low _ l.shaped.shaped _ _ c.requires.inside.0 c.requires.inside.1, l.listed.skip-long)

pub returns-then-shaped-block_at-ne0 : goal.returns-then-shaped-block_at-ne0
unfolding picture_in
returns-then-shaped-block_at-ne0 g c = skipped _ _ _ _ _ _ _ (rw c.block_at.ensures at c.if-shaped-block_at-ne0.true)

pub unit_at-requires : goal.unit_at-requires
unit_at-requires g c = counts-low _ c.args.i.now.listed.shaped.shaped _ _ c.requires.inside.0 c.requires.inside.1

pub pair-p-requires : goal.pair-p-requires
pair-p-requires g c = rw (c.unit_at.ensures, c.requires.paired.long) (unit-low _ _ _ c.requires.inside.0 c.requires.inside.1)

pub returns-then-is_off : goal.returns-then-is_off
returns-then-is_off g c = off _ _ _ _ _ _ _ _ _ (rw c.unit_at.ensures at c.pair-p.ensures) c.is_off.ensures c.if-is_off.true

pub invariant_of-taken : goal.invariant_of-taken
invariant_of-taken g c = record { low = rw c.pair-p.ensures (c.requires.paired.low _) }

pub filter_block-requires : goal.filter_block-requires
filter_block-requires g c = record {
  inside = c.requires.inside;
  begins = omega arith;
  room = room _ c.args.i.now.listed.shaped.shaped _ c.args.bx c.requires.inside.0 _ c.requires.full;
}

pub returns : goal.returns
unfolding picture_in
returns g c = on _ _ _ _ _ _ _ _ _ (rw c.unit_at.ensures at c.pair-p.ensures) c.is_off.ensures c.if-is_off.false (rw c.block_at.ensures at c.if-shaped-block_at-ne0.false) _ (filtered-is _ c.args.i.now.listed.shaped.shaped _ _ c.requires.inside.0 _ _ _ _ _ c.filter_block.ensures)

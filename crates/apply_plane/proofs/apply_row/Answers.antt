-- `apply_plane::apply_row` meets its contract.
use Rattle.std.proofs.Common.{◌≡◌, sym, ◌∙◌, ◌/◌, arith}
use Rattle.cdef_spec.specs.Lent.{picture_in}
use Rattle.apply_plane.specs.ApplyLaws.{row-none, row-turn}
use Rattle.apply_plane.proofs.apply_row.Goals as goal

pub loop-bx-init : goal.loop-bx-init
loop-bx-init g c = sym (row-none _ _ _ _ _ _)

pub apply_block-requires-clause-inside : goal.apply_block-requires-clause-inside
unfolding picture_in
apply_block-requires-clause-inside g c = (c.requires.inside, c.loop-bx-test.true)

pub loop-bx-preserved : goal.loop-bx-preserved
loop-bx-preserved g c = row-turn _ _ _ _ _ _ _ _ _ c.loop-bx.invariant c.apply_block.ensures

pub returns : goal.returns
unfolding picture_in
returns g c = let full : c.loop-bx.bx ≡ c.args.i.now.listed.shaped.picture.width / 8 = omega arith in c.loop-bx.invariant ∙ rw full

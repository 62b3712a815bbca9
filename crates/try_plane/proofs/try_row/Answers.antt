-- `try_plane::try_row` meets its contract.
use Rattle.std.proofs.Common.{◌≡◌, ap, ◌∙◌, ◌/◌, arith}
use Rattle.cdef_spec.specs.Lent.{picture_in}
use Rattle.cdef_spec.specs.LoopForm.{signed}
use Rattle.try_one.specs.TryLaws.{blocks-none, blocks-all}
use Rattle.try_plane.proofs.try_row.Goals as goal

pub loop-bx-init : goal.loop-bx-init
loop-bx-init c = c.requires.totals_so_far ∙ ap signed (blocks-none _ _ _ _ _ _)

pub try_block-requires : goal.try_block-requires
unfolding picture_in
try_block-requires c = record {
  inside = (c.requires.inside, c.loop-bx-test.true);
  constants = c.requires.constants;
  room = c.loop-bx.auto.blocks ∙ c.requires.room;
  totals_so_far = c.loop-bx.invariant;
}

pub returns : goal.returns
unfolding picture_in
returns c =
    let full : c.loop-bx.bx ≡ c.args.i.now.filter.listed.shaped.picture.width / 8 = omega arith in
    c.loop-bx.invariant ∙ ap signed (blocks-all _ _ _ _ _ _ _ full)

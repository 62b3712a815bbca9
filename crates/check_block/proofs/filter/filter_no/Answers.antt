-- What the test of the destination requires, of a plane that passed and a block that begins in it.
use Rattle.std.proofs.Common.{sym, ◌∙◌, arith}
use Rattle.cdef_spec.specs.Lent.{plane_in}
use Rattle.check_block.specs.PartLaws.{block-facts}
use Rattle.check_block.specs.CornerLaws.{width-is, height-is}
use Rattle.check_block.proofs.filter.filter_no.Goals as goal

pub rows_taken-requires : goal.rows_taken-requires
unfolding plane_in
rows_taken-requires c =
    let f = c.in_ok-full in
    let b = block-facts (plane_in c.args.plane.now) c.args.b (sym c.block_taken.ensures ∙ c.if-not-block_taken.false) in
    record {
      sides = (omega (arith, width-is _ _ f.ensures.same, f.ensures.in_range), omega (arith, height-is _ _ f.ensures.same, f.full.sides));
      block_in = (b.y-in, b.bh);
    }

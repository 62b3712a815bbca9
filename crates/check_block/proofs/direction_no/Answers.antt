-- The block whose samples are examined begins in the plane.
use Rattle.check_block.specs.CornerLaws.{corner_in}
use Rattle.check_block.proofs.direction_no.Goals as goal

pub cut_taken-requires-clause-corner_in : goal.cut_taken-requires-clause-corner_in
cut_taken-requires-clause-corner_in c = corner_in _ _ c.in_ok-full.ensures.same _ _ c.corner_taken.ensures c.if-not-corner_taken.false

-- The block whose samples are examined begins in both planes.
use Rattle.cdef_spec.specs.Lent.{plane_in}
use Rattle.cdef_spec.specs.Questions.{corner_taken}
use Rattle.check_block.specs.CornerLaws.{corner_in}
use Rattle.check_block.proofs.distance.distance_no.Goals as goal

pub cut_taken-requires-clause-corner_in : goal.cut_taken-requires-clause-corner_in
cut_taken-requires-clause-corner_in c = corner_in _ _ c.in_ok-full.ensures.same _ _ c.corner_taken.ensures c.if-not-corner_taken.false

pub cut_taken-requires-2-clause-corner_in : goal.cut_taken-requires-2-clause-corner_in
unfolding plane_in corner_taken
cut_taken-requires-2-clause-corner_in c = corner_in _ (plane_in (record c.args.orig.now { samples = c.args.other })) c.in_ok-second.ensures.same _ _ c.corner_taken.ensures c.if-not-corner_taken.false

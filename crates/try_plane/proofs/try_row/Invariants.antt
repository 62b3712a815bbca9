-- `try_plane::try_row` meets its contract.
use Rattle.std.proofs.Common.{◌≡◌}
use Rattle.cdef_spec.specs.LoopForm.{signed}
use Rattle.try_one.specs.Trying.{blocks_tried}
use Rattle.try_plane.proofs.try_row.Given as goal

abbrev pub invariant-loop-bx : goal.invariant-loop-bx
invariant-loop-bx l = l.totals ≡ signed (blocks_tried l.i l.by l.bx)

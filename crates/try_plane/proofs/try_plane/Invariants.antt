-- `try_plane::try_plane` meets its contract.
use Rattle.std.proofs.Common.{◌≡◌, length}
use Rattle.cdef_spec.specs.LoopForm.{signed}
use Rattle.try_one.specs.Trying.{rows_tried}
use Rattle.try_plane.proofs.try_plane.Given as goal

abbrev pub invariant-loop-by : goal.invariant-loop-by
invariant-loop-by l = record { done : l.totals ≡ signed (rows_tried l.i l.by); room : length l.blocks ≡ 768 }

-- `measure_plane::measure_plane` meets its contract.
use Rattle.std.proofs.Common.{◌≡◌}
use Rattle.cdef_spec.specs.LoopForm.{signed}
use Rattle.measure_plane.specs.Measure.{rows_measured}
use Rattle.measure_plane.proofs.measure_plane.Given as goal

abbrev pub invariant-loop-by : goal.invariant-loop-by
invariant-loop-by l = l.totals ≡ signed (rows_measured l.i l.p.pair l.by)

-- `measure_plane::totals::measure_row` meets its contract.
use Rattle.std.proofs.Common.{◌≡◌, ℕ, List}
use Rattle.cdef_spec.specs.LoopForm.{signed, measure_row}
use Rattle.frame_shape.specs.Checked.{compare_in}
use Rattle.measure_plane.specs.Measure.{distance_in}
use Rattle.measure_plane.proofs.totals.measure_row.Given as goal

abbrev pub invariant-loop-bx : goal.invariant-loop-bx
invariant-loop-bx l = (t : List ℕ) → l.initial.totals ≡ signed t → l.totals ≡ signed (measure_row (compare_in l.i) l.i.visible (distance_in l.i l.p.pair) l.by t l.bx)

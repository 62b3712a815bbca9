-- `cdef::measuring::measure_units` meets its contract.
use Rattle.std.proofs.Common.{rules}
use Rattle.cdef_spec.specs.AnswerLaws.{zero-so}
use Rattle.frame_calls.specs.CallLaws.{measuring-refuses, measuring-long, scratch-long, measuring-low, measuring-does}
use Rattle.cdef.proofs.measuring.measure_units.Goals as goal

pub returns-in_err-input : goal.returns-in_err-input
returns-in_err-input c = measuring-refuses _ _ _ _ _ _ _ _ _ c.in_err-input.field-0.0 _ (search rules) c.in_err-input.ensures.refusal

pub invariant_of-measure_plane : goal.invariant_of-measure_plane
invariant_of-measure_plane c = record { low = measuring-low _ _ _ _ _ _ _ _ (zero-so c.in_ok-input.input _ c.in_ok-input.ensures.refusal) }

pub measure_plane-requires : goal.measure_plane-requires
measure_plane-requires c =
    let z = zero-so c.in_ok-input.input _ c.in_ok-input.ensures.refusal in
    rw c.in_ok-input.ensures.input.filter.picture (record { lengths = (measuring-long _ _ _ _ _ _ _ _ z, scratch-long _ _ _ _ _ _ _ _ z) })

pub returns : goal.returns
returns c =
    let z = zero-so c.in_ok-input.input _ c.in_ok-input.ensures.refusal in
    let made = c.in_ok-input.ensures.input in
    let totals-are = rw (made.filter.picture, made.filter.damping, made.filter.samples, made.original, made.visible) at c.measure_plane.ensures.totals_after in
    let scratch-is = rw made.filter.picture at c.measure_plane.ensures.scratch_after in
    measuring-does _ _ _ _ _ _ _ _ z _ _ _ totals-are scratch-is

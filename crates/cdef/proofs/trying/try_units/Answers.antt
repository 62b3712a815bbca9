-- `cdef::trying::try_units` meets its contract.
use Rattle.std.proofs.Common.{rules}
use Rattle.cdef_spec.specs.AnswerLaws.{zero-so}
use Rattle.frame_calls.specs.CallLaws.{trying-refuses, trying-long, trying-does}
use Rattle.cdef.proofs.trying.try_units.Goals as goal

pub returns-in_err-input : goal.returns-in_err-input
returns-in_err-input c = trying-refuses _ _ _ _ _ _ _ c.in_err-input.field-0.0 _ (search rules) c.in_err-input.ensures.refusal

pub try_plane-requires : goal.try_plane-requires
try_plane-requires c =
    let z = zero-so c.in_ok-input.input _ c.in_ok-input.ensures.refusal in
    rw c.in_ok-input.ensures.input.filter.picture (trying-long _ _ _ _ _ _ z)

pub returns : goal.returns
returns c =
    let z = zero-so c.in_ok-input.input _ c.in_ok-input.ensures.refusal in
    let made = c.in_ok-input.ensures.input in
    trying-does _ _ _ _ _ _ z _ _ (rw (made.filter.picture, made.filter.damping, made.filter.samples, made.original, made.visible) at c.try_plane.ensures)

-- `cdef_blocks::direction::direction` meets its contract.
use Rattle.std.proofs.Common.{◌≡◌}
use Rattle.cdef_spec.specs.Answers.{code_of, result_of, read_found}
use Rattle.cdef_spec.specs.AnswerLaws.{zero-so}
use Rattle.cdef_spec.specs.Lent.{plane_in_full}
use Rattle.cdef_spec.specs.BlockCalls.{direction_no, direction_outcome}
use Rattle.check_block.specs.CornerLaws.{passes}
use Rattle.check_block.specs.DirectionLaws.{direction-facts}
use Rattle.cdef_blocks.proofs.direction.direction.Goals as goal

pub cdef_direction-requires : goal.cdef_direction-requires
unfolding plane_in_full
cdef_direction-requires c =
    let a = c.args in
    let p = plane_in_full c.in_ok-full.full in
    let f = direction-facts p a.depth a.y a.x (passes (λ p. direction_no p a.depth a.y a.x) _ _ c.in_ok-full.ensures.same c.in_ok-full.ensures.first_no) in
    let q = f.plane in
    record { x-in = f.x-in; y-in = f.y-in; depth_low = q.deep; depth-high = q.flat; low = f.cut }

pub returns : goal.returns
unfolding plane_in_full direction_outcome result_of read_found
returns c =
    let a = c.args in
    let z = passes (λ p. direction_no p a.depth a.y a.x) _ _ c.in_ok-full.ensures.same c.in_ok-full.ensures.first_no in
    rw (← c.in_ok-full.ensures.same, z, c.cdef_direction.ensures.direction_value, c.cdef_direction.ensures.variance_value)

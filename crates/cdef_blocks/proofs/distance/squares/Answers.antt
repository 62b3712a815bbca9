-- `cdef_blocks::distance::squares` meets its contract.
use Rattle.std.proofs.Common.{arith, ◌≡◌, ◌<◌, ◌^◌, ap, ◌∙◌, pos, w64}
use mir.ValLaws.{to_z_pos}
use Rattle.cdef_spec.specs.Answers.{taken, read, result_of}
use Rattle.cdef_spec.specs.BlockCalls.{plane_squares, distance_no, squares_outcome}
use Rattle.cdef_spec.specs.Lent.{plane_in_full}
use Rattle.distance_block.specs.PlaneLaws.{beside, plain-low}
use Rattle.check_block.specs.CornerLaws.{passes}
use Rattle.check_block.specs.DistanceLaws.{distance-facts}
use Rattle.cdef_blocks.proofs.distance.squares.Goals as goal

pub block_sse_8x8-requires : goal.block_sse_8x8-requires
unfolding plane_in_full beside
block_sse_8x8-requires c =
    let a = c.args in
    let p = plane_in_full c.in_ok-full.full in
    let f = distance-facts p a.other.now a.depth a.y a.x (passes (λ p. distance_no p a.other.now a.depth a.y a.x) _ _ c.in_ok-full.ensures.same c.in_ok-full.ensures.first_no) in
    record { on_plane = (f.other-full, f.x-in, f.y-in); samples_taken = (a.depth, f.plane.flat, f.cut, f.other_cut) }

pub overflow_cast-result : goal.overflow_cast-result
unfolding plane_in_full
overflow_cast-result c =
    let a = c.args in
    let p = plane_in_full c.in_ok-full.full in
    let f = distance-facts p a.other.now a.depth a.y a.x (passes (λ p. distance_no p a.other.now a.depth a.y a.x) _ _ c.in_ok-full.ensures.same c.in_ok-full.ensures.first_no) in
    let low = plain-low p.samples a.other.now p.width p.height a.depth a.y a.x f.plane.full_is f.other-full f.x-in f.y-in f.plane.deep f.plane.flat f.cut f.other_cut in
    record { sfits = omega (arith, low, c.block_sse_8x8.ensures) }

pub returns : goal.returns
unfolding plane_in_full squares_outcome result_of read
returns c =
    let a = c.args in
    let p = plane_in_full c.in_ok-full.full in
    let z = passes (λ p. distance_no p a.other.now a.depth a.y a.x) _ _ c.in_ok-full.ensures.same c.in_ok-full.ensures.first_no in
    let f = distance-facts p a.other.now a.depth a.y a.x z in
    let is : c.block_sse_8x8.result ≡ plane_squares p a.other.now a.y a.x = c.block_sse_8x8.ensures in
    let low = plain-low p.samples a.other.now p.width p.height a.depth a.y a.x f.plane.full_is f.other-full f.x-in f.y-in f.plane.deep f.plane.flat f.cut f.other_cut in
    let fits : c.block_sse_8x8.result < 2 ^ 53 = rw is low in
    rw (← c.in_ok-full.ensures.same, z) (ap taken (to_z_pos w64 _ (omega (arith, fits)) ∙ ap pos is))

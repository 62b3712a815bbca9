-- `cdef_blocks::distance::distance` meets its contract.
use Rattle.std.proofs.Common.{arith, ◌≡◌, ◌<◌, ◌^◌, ap, ◌∙◌, pos, w64}
use mir.ValLaws.{to_z_pos}
use Rattle.cdef_spec.specs.Answers.{taken, read, result_of}
use Rattle.cdef_spec.specs.BlockCalls.{plane_distance, distance_no, distance_outcome}
use Rattle.cdef_spec.specs.Lent.{plane_in_full}
use Rattle.distance_block.specs.PlaneLaws.{beside, distance-low}
use Rattle.check_block.specs.CornerLaws.{passes}
use Rattle.check_block.specs.DistanceLaws.{distance-facts}
use Rattle.cdef_blocks.proofs.distance.distance.Goals as goal

pub cdef_dist_8x8-requires : goal.cdef_dist_8x8-requires
unfolding plane_in_full beside
cdef_dist_8x8-requires c =
    let a = c.args in
    let p = plane_in_full c.in_ok-full.full in
    let f = distance-facts p a.other.now a.depth a.y a.x (passes (λ p. distance_no p a.other.now a.depth a.y a.x) _ _ c.in_ok-full.ensures.same c.in_ok-full.ensures.first_no) in
    record { on_plane = (f.other-full, f.x-in, f.y-in); samples_taken = (a.depth, record { deep = f.plane.deep; flat = f.plane.flat; is = c.constants_of-constants.ensures }, f.cut, f.other_cut) }

pub constants_of-constants-requires : goal.constants_of-constants-requires
constants_of-constants-requires c =
    let a = c.args in
    let p = plane_in_full c.in_ok-full.full in
    let f = distance-facts p a.other.now a.depth a.y a.x (passes (λ p. distance_no p a.other.now a.depth a.y a.x) _ _ c.in_ok-full.ensures.same c.in_ok-full.ensures.first_no) in
    (f.plane.deep, f.plane.flat)

pub overflow_cast-result : goal.overflow_cast-result
unfolding plane_in_full
overflow_cast-result c =
    let a = c.args in
    let p = plane_in_full c.in_ok-full.full in
    let f = distance-facts p a.other.now a.depth a.y a.x (passes (λ p. distance_no p a.other.now a.depth a.y a.x) _ _ c.in_ok-full.ensures.same c.in_ok-full.ensures.first_no) in
    let low = distance-low p.samples a.other.now p.width p.height a.depth a.y a.x f.plane.full_is f.other-full f.x-in f.y-in f.plane.deep f.plane.flat f.cut f.other_cut in
    record { sfits = omega (arith, low, c.cdef_dist_8x8.ensures _ c.constants_of-constants.ensures) }

pub returns : goal.returns
unfolding plane_in_full distance_outcome result_of read
returns c =
    let a = c.args in
    let p = plane_in_full c.in_ok-full.full in
    let z = passes (λ p. distance_no p a.other.now a.depth a.y a.x) _ _ c.in_ok-full.ensures.same c.in_ok-full.ensures.first_no in
    let f = distance-facts p a.other.now a.depth a.y a.x z in
    let is : c.cdef_dist_8x8.result ≡ plane_distance p a.other.now a.depth a.y a.x = c.cdef_dist_8x8.ensures _ c.constants_of-constants.ensures in
    let low = distance-low p.samples a.other.now p.width p.height a.depth a.y a.x f.plane.full_is f.other-full f.x-in f.y-in f.plane.deep f.plane.flat f.cut f.other_cut in
    let fits : c.cdef_dist_8x8.result < 2 ^ 53 = rw is low in
    rw (← c.in_ok-full.ensures.same, z) (ap taken (to_z_pos w64 _ (omega (arith, fits)) ∙ ap pos is))

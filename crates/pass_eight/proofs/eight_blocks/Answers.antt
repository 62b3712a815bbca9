-- `pass_eight::eight_blocks` meets its contract.
use mathlib.Core.List.{List}
use Prim.Native.Nat.{ℕ, ◌+◌, ◌*◌, ◌/◌, ◌≤◌, ◌<◌}
use native.Mathlib.Omega.{arith}
use lib.ListN.{length}
use Rattle.cdef_spec.specs.declared.full.FullPlane.{FullPlane}
use Rattle.cdef_spec.specs.Lent.{plane_in_full}
use Rattle.pass_one.specs.Pass.{PassIn}
use Rattle.pass_one.specs.PassLaws.{blocks-in}
use Rattle.direction_lanes.specs.Lanes.{EightIn}
use Rattle.direction_lanes.specs.LanesLaws.{lanes-within}
use Rattle.pass_eight.specs.EightLaws.{filled-eight}
use Rattle.pass_eight.proofs.eight_blocks.Goals as goal

-- they are whole blocks of the plane
inside : (p : FullPlane) {depth : ℕ} {dirs vars : List ℕ} (by bx : ℕ) → PassIn (plane_in_full p) depth dirs vars → bx + 8 ≤ p.width / 8 → by < p.height / 8
    → EightIn (plane_in_full p) depth (by * 8) (bx * 8)
unfolding plane_in_full
inside p by bx q hx hy = record { x-in = omega arith; y-in = omega arith; depth_low = q.depth_low; depth-high = q.depth-high; low = q.low }

-- their places in the lists
places : (p : FullPlane) {depth : ℕ} {dirs vars : List ℕ} (by bx : ℕ) → PassIn (plane_in_full p) depth dirs vars × (bx + 8 ≤ p.width / 8) × (by < p.height / 8)
    → (by * (p.width / 8) + bx + 8 ≤ length dirs) × (by * (p.width / 8) + bx + 8 ≤ length vars) × (length dirs ≤ 512 * 512)
places p by bx h = blocks-in p 7 by bx h.0 h.1 h.2

pub overflow_mul-bx : goal.overflow_mul-bx
overflow_mul-bx c = omega (arith, c.requires.pass_in.1, c.args.plane.now.sides)

pub overflow_mul-by : goal.overflow_mul-by
overflow_mul-by c = omega (arith, c.requires.pass_in.2, c.args.plane.now.sides)

pub lanes-requires : goal.lanes-requires
lanes-requires c = inside c.args.plane.now c.args.by c.args.bx c.requires.pass_in.0 c.requires.pass_in.1 c.requires.pass_in.2

pub eight-f-requires : goal.eight-f-requires
eight-f-requires c = rw c.lanes.ensures (lanes-within _ _ _ _ c.requires.pass_in.0.depth_low c.requires.pass_in.0.low)

pub overflow_mul-at : goal.overflow_mul-at
overflow_mul-at c = omega (arith, places c.args.plane.now c.args.by c.args.bx c.requires.pass_in)

pub overflow_add-at : goal.overflow_add-at
overflow_add-at c = omega (arith, places c.args.plane.now c.args.by c.args.bx c.requires.pass_in)

pub slice_bounds-copy_from_slice-end : goal.slice_bounds-copy_from_slice-end
slice_bounds-copy_from_slice-end c = omega (arith, places c.args.plane.now c.args.by c.args.bx c.requires.pass_in)

pub returns : goal.returns
returns c = unfold plane_in_full in let h = places c.args.plane.now c.args.by c.args.bx c.requires.pass_in in
    filled-eight _ _ _ _ _ _ c.requires.filled _ _ c.requires.pass_in.1 h.0 h.1 c.lanes.ensures c.eight-f.ensures c.copy_from_slice.ensures.after c.copy_from_slice-2.ensures.after

-- `direction_lanes::rows` meets its contract.
use mathlib.Core.Path.{◌≡◌, sym, ◌∙◌}
use Prim.Native.Nat.{ℕ, ◌-◌, ◌^◌, ◌+◌, ◌*◌, ◌/◌, ◌%◌, ◌≤◌, ◌<◌}
use native.Mathlib.Omega.{arith}
use lib.IntN.{ℤ, pos, ◌-ℤ◌}
use lib.ListN.{get_or, length, length-set}
use mir.Syntax.{w16}
use mir.Val.{to_z, of_z}
use Rattle.arith_sample.specs.Upto.{upto-none, upto-more, upto-at, upto_all}
use Rattle.arith_sample.proofs.Joins.{back_is}
use Rattle.cdef_spec.specs.Document01.{direction_input}
use Rattle.direction_levels.specs.LevelLaws.{less-128}
use Rattle.cdef_spec.specs.declared.full.FullPlane.{FullPlane}
use Rattle.cdef_spec.specs.Lent.{plane_in_full}
use Rattle.direction_levels.proofs.Places.{place-in}
use Rattle.direction_lanes.specs.Lanes.{EightIn, rows_of}
use Rattle.direction_lanes.specs.LanesLaws.{shifted-low, row_at}
use Rattle.direction_lanes.proofs.rows.Goals as goal

-- a row's samples are in the plane
inside : (p : FullPlane) {depth y x i : ℕ} → EightIn (plane_in_full p) depth y x → i < 8
    → ((y + i) * p.width + x + 64 ≤ length p.samples.now) × (length p.samples.now ≤ 4096 * 4096)
unfolding plane_in_full
inside p {depth} {y} {x} {i} q hi =
    let r : y + i < p.height = omega (arith, q.y-in) in
    let k : x + 63 < p.width = omega (arith, q.x-in) in
    omega (arith, place-in p (y + i) (x + 63) r k)

-- what an iteration stores
stored : (p : FullPlane) {depth y x i k : ℕ} {r : ℤ} → EightIn (plane_in_full p) depth y x → i < 8 → k < 64
    → r ≡ pos (get_or p.samples.now ((y + i) * p.width + x + k) 0 / 2 ^ (depth - 8)) -ℤ pos 128
    → to_z w16 (of_z w16 r) ≡ direction_input (plane_in_full p) depth y x ((i * 64 + k) / 64) ((i * 64 + k) % 64)
unfolding plane_in_full
stored p {depth} {y} {x} {i} {k} q hi hk e =
    back_is {m = 128} (record { is = e; small = less-128 _ (shifted-low _ depth q.depth_low (q.low _)) }) (omega arith)
    ∙ row_at p.samples.now p.width p.height depth y x i k q.x-in q.y-in hi hk

pub overflow_sub-shift : goal.overflow_sub-shift
overflow_sub-shift c = omega (arith, c.requires.depth_low)

pub loop-i-init : goal.loop-i-init
loop-i-init c = (sym (upto-none _), c.told-a, omega arith)

pub overflow_add-at : goal.overflow_add-at
overflow_add-at c = unfold plane_in_full in omega (arith, c.requires.y-in, c.args.plane.now.sides)

pub overflow_mul-at : goal.overflow_mul-at
overflow_mul-at c = omega (arith, inside c.args.plane.now c.requires c.loop-i-test.true)

pub overflow_add-at-in-loop-i : goal.overflow_add-at-in-loop-i
overflow_add-at-in-loop-i c = omega (arith, inside c.args.plane.now c.requires c.loop-i-test.true)

pub loop-k-init : goal.loop-k-init
loop-k-init c = (upto-at _ _ _ _ (omega arith) c.loop-i.invariant.0, c.loop-i.invariant.1, omega arith)

pub overflow_add-at-in-loop-k : goal.overflow_add-at-in-loop-k
overflow_add-at-in-loop-k c = omega (arith, inside c.args.plane.now c.requires c.loop-i-test.true)

pub offset_bounds-plane-at : goal.offset_bounds-plane-at
offset_bounds-plane-at c = omega (arith, inside c.args.plane.now c.requires c.loop-i-test.true)

pub bounds-plane-at : goal.bounds-plane-at
bounds-plane-at c = omega (arith, (inside c.args.plane.now c.requires c.loop-i-test.true).0)

pub level-requires : goal.level-requires
level-requires c = unfold plane_in_full in let q = c.requires in (omega (arith, q.depth-high), shifted-low _ _ q.depth_low (q.low _))

pub loop-k-preserved : goal.loop-k-preserved
loop-k-preserved c = (upto-at _ _ _ _ (omega arith) (upto-more _ _ _ _ c.loop-k.invariant.0 (omega (arith, c.loop-k.invariant.1)) (stored c.args.plane.now c.requires c.loop-i-test.true c.loop-k-test.true c.level.ensures)), simp length-set c.loop-k.invariant.1, omega arith)

pub loop-i-preserved : goal.loop-i-preserved
loop-i-preserved c = (upto-at _ _ _ _ (omega arith) c.loop-k.invariant.0, c.loop-k.invariant.1, omega arith)

pub returns : goal.returns
returns c = unfold rows_of in upto_all _ _ 512 _ c.loop-i.invariant.0 c.loop-i.invariant.1 (omega arith)

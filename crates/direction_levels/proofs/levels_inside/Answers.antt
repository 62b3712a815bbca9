-- `direction_levels::levels_inside` meets its contract.
use mathlib.Core.Path.{◌≡◌, refl, sym}
use Prim.Native.Nat.{◌+◌, ◌*◌, ◌/◌, ◌%◌}
use native.Mathlib.Omega.{arith}
use lib.ListN.{get_or, length-set}
use mir.Syntax.{w16}
use mir.Val.{to_z, of_z}
use Rattle.cdef_spec.specs.Document01.{edge_sample, direction_input}
use Rattle.cdef_spec.specs.Lent.{plane_in_full}
use Rattle.arith_sample.specs.Upto.{upto-none, upto-more, upto-at, upto_all}
use Rattle.direction_levels.specs.Levels.{block_of}
use Rattle.direction_levels.proofs.Places.{corner, place-in, inside_is, read_low, stored_is}
use Rattle.direction_levels.proofs.levels_inside.Goals as goal
use Rattle.direction_levels.proofs.levels_inside.Goals.{After-level, In-loop-j}

-- what an iteration reads
read : (c : In-loop-j) → let a = c.args in let i = c.loop-i.i in let j = c.loop-j.j in get_or a.plane.now.samples.now ((a.y + i) * a.plane.now.width + a.x + j) 0 ≡ edge_sample (plane_in_full a.plane.now) (a.y + i) (a.x + j)
unfolding plane_in_full
read c =
    let a = c.args in
    inside_is a.plane.now.samples.now a.plane.now.width a.plane.now.height a.depth a.y a.x c.requires.inside.0 c.requires.inside.1 _ _ c.loop-i-test.true c.loop-j-test.true

stored : (c : After-level) → let a = c.args in let i = c.loop-i.i in let j = c.loop-j.j in get_or a.plane.now.samples.now ((a.y + i) * a.plane.now.width + a.x + j) 0 ≡ edge_sample (plane_in_full a.plane.now) (a.y + i) (a.x + j) → to_z w16 (of_z w16 c.level.result) ≡ direction_input (plane_in_full a.plane.now) a.depth a.y a.x ((i * 8 + j) / 8) ((i * 8 + j) % 8)
unfolding plane_in_full
stored c e =
    let a = c.args in
    let h = corner a.plane.now c.requires.block in
    stored_is a.plane.now.samples.now a.plane.now.width a.plane.now.height a.depth a.y a.x h.1 h.0 c.requires.block.low h.2 _ _ c.loop-i-test.true c.loop-j-test.true _ e c.level.ensures

pub loop-i-init : goal.loop-i-init
loop-i-init c = (sym (upto-none _), refl, omega arith)

pub overflow_mul-at : goal.overflow_mul-at
overflow_mul-at c = omega (arith, place-in c.args.plane.now (c.args.y + c.loop-i.i) c.args.x (omega arith) (omega arith))

pub overflow_add-at-in-loop-i : goal.overflow_add-at-in-loop-i
overflow_add-at-in-loop-i c = omega (arith, place-in c.args.plane.now (c.args.y + c.loop-i.i) c.args.x (omega arith) (omega arith))

pub loop-j-init : goal.loop-j-init
loop-j-init c = (upto-at _ _ _ _ (omega arith) c.loop-i.invariant.0, c.loop-i.invariant.1, omega arith)

pub overflow_add-at-in-loop-j : goal.overflow_add-at-in-loop-j
overflow_add-at-in-loop-j c = omega (arith, place-in c.args.plane.now (c.args.y + c.loop-i.i) (c.args.x + c.loop-j.j) (omega arith) (omega arith))

pub offset_bounds-plane-at : goal.offset_bounds-plane-at
offset_bounds-plane-at c = omega (arith, place-in c.args.plane.now (c.args.y + c.loop-i.i) (c.args.x + c.loop-j.j) (omega arith) (omega arith))

pub bounds-plane-at : goal.bounds-plane-at
bounds-plane-at c = omega (arith, place-in c.args.plane.now (c.args.y + c.loop-i.i) (c.args.x + c.loop-j.j) (omega arith) (omega arith))

pub level-requires : goal.level-requires
level-requires c = unfold plane_in_full in let a = c.args in
    let h = corner a.plane.now c.requires.block in
    (omega (arith, h), read_low a.plane.now.samples.now a.plane.now.width a.plane.now.height a.depth a.y a.x h.1 h.0 c.requires.block.low h.2 _ _ c.loop-i-test.true c.loop-j-test.true _ (read (goal.at.level-requires c).In-loop-j))

pub loop-j-preserved : goal.loop-j-preserved
loop-j-preserved c = (upto-at _ _ _ _ (omega arith) (upto-more _ _ _ _ c.loop-j.invariant.0 (omega arith) (stored c (read (goal.at.loop-j-preserved c).In-loop-j))), simp length-set c.loop-j.invariant.1, omega arith)

pub loop-i-preserved : goal.loop-i-preserved
loop-i-preserved c = (upto-at _ _ _ _ (omega arith) c.loop-j.invariant.0, c.loop-j.invariant.1, omega arith)

pub returns : goal.returns
returns c = unfold block_of in upto_all _ _ 64 _ c.loop-i.invariant.0 c.loop-i.invariant.1 (omega arith)

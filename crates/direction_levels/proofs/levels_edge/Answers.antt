-- `direction_levels::levels_edge` meets its contract.
use mathlib.Core.Path.{◌≡◌, refl, sym, ap}
use Prim.Native.Nat.{ℕ, ◌+◌, ◌-◌, ◌*◌, ◌/◌, ◌%◌, ◌≤◌, ◌<◌, min}
use native.Mathlib.Omega.{arith}
use lib.ListN.{length, get_or, length-set}
use mir.Syntax.{w16}
use mir.Val.{to_z, of_z}
use Rattle.cdef_spec.specs.Document01.{edge_sample, direction_input}
use Rattle.cdef_spec.specs.Lent.{plane_in_full}
use Rattle.arith_sample.specs.Upto.{upto-none, upto-more, upto-at, upto_all}
use Rattle.direction_levels.specs.Levels.{block_of}
use Rattle.direction_levels.proofs.Places.{corner, place-in, edge-is, read_low, stored_is}
use Rattle.direction_levels.proofs.levels_edge.Goals as goal
use Rattle.direction_levels.proofs.levels_edge.Goals.{After-min, After-min-in-loop-j, After-level}

-- the index of an iteration
row_is : (c : After-min) → let a = c.args in c.min.result * a.plane.now.width ≡ min (a.y + c.loop-i.i) (a.plane.now.height - 1) * a.plane.now.width
row_is c = ap (λ (n : ℕ). n * c.args.plane.now.width) c.min.ensures

place_is : (c : After-min-in-loop-j) → let a = c.args in c.min.result * a.plane.now.width + c.min-in-loop-j.result ≡ min (a.y + c.loop-i.i) (a.plane.now.height - 1) * a.plane.now.width + min (a.x + c.loop-j.j) (a.plane.now.width - 1)
place_is c = rw (c.min.ensures, c.min-in-loop-j.ensures)

place : (c : After-min-in-loop-j) → let a = c.args in (c.min.result * a.plane.now.width + c.min-in-loop-j.result < length a.plane.now.samples.now) × (length a.plane.now.samples.now ≤ 4096 * 4096)
place c =
    let a = c.args in
    rw (place_is c) (place-in a.plane.now (min (a.y + c.loop-i.i) (a.plane.now.height - 1)) (min (a.x + c.loop-j.j) (a.plane.now.width - 1)) (omega (arith, corner a.plane.now c.requires)) (omega (arith, corner a.plane.now c.requires)))

row_low : (c : After-min) → let a = c.args in c.min.result * a.plane.now.width ≤ 4096 * 4096
row_low c =
    let a = c.args in
    omega (arith, row_is c, place-in a.plane.now (min (a.y + c.loop-i.i) (a.plane.now.height - 1)) 0 (omega (arith, corner a.plane.now c.requires)) (omega (arith, corner a.plane.now c.requires)))

-- what an iteration reads
read : (c : After-min-in-loop-j) → let a = c.args in get_or a.plane.now.samples.now (c.min.result * a.plane.now.width + c.min-in-loop-j.result) 0 ≡ edge_sample (plane_in_full a.plane.now) (a.y + c.loop-i.i) (a.x + c.loop-j.j)
unfolding plane_in_full
read c =
    let a = c.args in
    edge-is a.plane.now.samples.now a.plane.now.width a.plane.now.height a.depth a.y a.x _ _ _ (place_is c)

stored : (c : After-level) → let a = c.args in let i = c.loop-i.i in let j = c.loop-j.j in get_or a.plane.now.samples.now (c.min.result * a.plane.now.width + c.min-in-loop-j.result) 0 ≡ edge_sample (plane_in_full a.plane.now) (a.y + i) (a.x + j) → to_z w16 (of_z w16 c.level.result) ≡ direction_input (plane_in_full a.plane.now) a.depth a.y a.x ((i * 8 + j) / 8) ((i * 8 + j) % 8)
unfolding plane_in_full
stored c e =
    let a = c.args in
    let h = corner a.plane.now c.requires in
    stored_is a.plane.now.samples.now a.plane.now.width a.plane.now.height a.depth a.y a.x h.1 h.0 c.requires.low h.2 _ _ c.loop-i-test.true c.loop-j-test.true _ e c.level.ensures

pub loop-i-init : goal.loop-i-init
loop-i-init c = (sym (upto-none _), refl, omega arith)

pub overflow_mul-row : goal.overflow_mul-row
overflow_mul-row c = omega (arith, row_low c)

pub loop-j-init : goal.loop-j-init
loop-j-init c = (upto-at _ _ _ _ (omega arith) c.loop-i.invariant.0, c.loop-i.invariant.1, omega arith)

pub overflow_add-at : goal.overflow_add-at
overflow_add-at c = omega (arith, place c)

pub offset_bounds-plane-at : goal.offset_bounds-plane-at
offset_bounds-plane-at c = omega (arith, place c)

pub bounds-plane-at : goal.bounds-plane-at
bounds-plane-at c = (place (goal.at.bounds-plane-at c).After-min-in-loop-j).0

pub level-requires : goal.level-requires
level-requires c = unfold plane_in_full in let a = c.args in
    let h = corner a.plane.now c.requires in
    (omega (arith, h), read_low a.plane.now.samples.now a.plane.now.width a.plane.now.height a.depth a.y a.x h.1 h.0 c.requires.low h.2 _ _ c.loop-i-test.true c.loop-j-test.true _ (read (goal.at.level-requires c).After-min-in-loop-j))

pub loop-j-preserved : goal.loop-j-preserved
loop-j-preserved c = (upto-at _ _ _ _ (omega arith) (upto-more _ _ _ _ c.loop-j.invariant.0 (omega arith) (stored c (read (goal.at.loop-j-preserved c).After-min-in-loop-j))), simp length-set c.loop-j.invariant.1, omega arith)

pub loop-i-preserved : goal.loop-i-preserved
loop-i-preserved c = (upto-at _ _ _ _ (omega arith) c.loop-j.invariant.0, c.loop-j.invariant.1, omega arith)

pub returns : goal.returns
returns c = unfold block_of in upto_all _ _ 64 _ c.loop-i.invariant.0 c.loop-i.invariant.1 (omega arith)

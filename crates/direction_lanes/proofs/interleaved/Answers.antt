-- `direction_lanes::interleaved` meets its contract.
use mathlib.Core.Path.{◌≡◌, sym}
use mathlib.Core.List.{List}
use Prim.Native.Nat.{ℕ, ◌+◌, ◌*◌, ◌≤◌, ◌<◌}
use native.Mathlib.Nat.{mul-le-mul_right}
use native.Mathlib.Omega.{arith}
use lib.IntN.{ℤ, pos}
use lib.ListN.{get_or, length-set}
use mir.Syntax.{w16}
use mir.Val.{to_z, of_z}
use Rattle.arith_sample.specs.Bounds.{Within}
use Rattle.arith_sample.specs.Upto.{upto-none, upto-more, upto-at, upto_all}
use Rattle.arith_sample.proofs.Sums16.{back}
use Rattle.direction_lanes.specs.Lanes.{from_at, interleaved_of}
use Rattle.direction_lanes.specs.LanesLaws.{from_at_is}
use Rattle.direction_lanes.proofs.interleaved.Goals as goal

-- the two runs of an iteration are in the array
inside : (row on half m i : ℕ) → 3 * row + 7 * on + half + 8 ≤ 512 → m < 4 → i < 8 → m * row + i * on + half + 8 ≤ 512
inside row on half m i h hm hi =
    let p : m ≤ 3 = omega arith in
    let q : i ≤ 7 = omega arith in
    omega (arith, mul-le-mul_right row p, mul-le-mul_right on q, h)

-- what is stored at k
stored : (a : List ℤ) (row on half m i j b at k : ℕ) → Within a 128 → m < 4 → i < 8 → j < 8 → b < 2 → at ≡ m * row + i * on + j + b * half
    → k ≡ m * 128 + i * 16 + 2 * j + b → to_z w16 (of_z w16 (get_or a at (pos 0))) ≡ get_or a (from_at row on half k) (pos 0)
stored a row on half m i j b at k w hm hi hj hb e f = rw (e, f, from_at_is row on half m i j b hm hi hj hb) (back _ (omega (arith, w.all (m * row + i * on + j + b * half))))

pub loop-m-init : goal.loop-m-init
loop-m-init c = (sym (upto-none _), c.told-out, omega arith)

pub loop-i-init : goal.loop-i-init
loop-i-init c = (upto-at _ _ _ _ (omega arith) c.loop-m.invariant.0, c.loop-m.invariant.1, omega arith)

pub overflow_mul-from : goal.overflow_mul-from
overflow_mul-from c = omega (arith, inside _ _ _ _ _ c.requires.0 c.loop-m-test.true c.loop-i-test.true)

pub overflow_mul-from-in-loop-i : goal.overflow_mul-from-in-loop-i
overflow_mul-from-in-loop-i c = omega (arith, inside _ _ _ _ _ c.requires.0 c.loop-m-test.true c.loop-i-test.true)

pub overflow_add-from : goal.overflow_add-from
overflow_add-from c = omega (arith, inside _ _ _ _ _ c.requires.0 c.loop-m-test.true c.loop-i-test.true)

pub overflow_add-next : goal.overflow_add-next
overflow_add-next c = omega (arith, inside _ _ _ _ _ c.requires.0 c.loop-m-test.true c.loop-i-test.true)

pub loop-j-init : goal.loop-j-init
loop-j-init c = (upto-at _ _ _ _ (omega arith) c.loop-i.invariant.0, c.loop-i.invariant.1, omega arith)

pub overflow_add-out : goal.overflow_add-out
overflow_add-out c = omega (arith, inside _ _ _ _ _ c.requires.0 c.loop-m-test.true c.loop-i-test.true)

pub offset_bounds-a-from : goal.offset_bounds-a-from
offset_bounds-a-from c = omega (arith, inside _ _ _ _ _ c.requires.0 c.loop-m-test.true c.loop-i-test.true)

pub bounds-a-from : goal.bounds-a-from
bounds-a-from c = omega (arith, inside _ _ _ _ _ c.requires.0 c.loop-m-test.true c.loop-i-test.true)

pub overflow_add-out-in-loop-j-2 : goal.overflow_add-out-in-loop-j-2
overflow_add-out-in-loop-j-2 c = omega (arith, inside _ _ _ _ _ c.requires.0 c.loop-m-test.true c.loop-i-test.true)

pub offset_bounds-a-next : goal.offset_bounds-a-next
offset_bounds-a-next c = omega (arith, inside _ _ _ _ _ c.requires.0 c.loop-m-test.true c.loop-i-test.true)

pub bounds-a-next : goal.bounds-a-next
bounds-a-next c = omega (arith, inside _ _ _ _ _ c.requires.0 c.loop-m-test.true c.loop-i-test.true)

pub loop-j-preserved : goal.loop-j-preserved
loop-j-preserved c = let m : c.loop-m.m < 4 = omega arith in
    let i : c.loop-i.i < 8 = omega arith in
    let j : c.loop-j.j < 8 = omega arith in
    let h : c.loop-m.m * 128 + c.loop-i.i * 16 + 2 * c.loop-j.j + 1 < 512 = omega arith in
    (upto-at _ _ _ _ (omega arith) (upto-more _ _ _ _ (upto-more _ _ _ _ c.loop-j.invariant.0 (omega (arith, c.loop-j.invariant.1)) (stored _ _ _ _ _ _ _ 0 _ _ c.requires.1 m i j (omega arith) (omega arith) (omega arith))) (simp length-set (omega (arith, c.loop-j.invariant.1))) (stored _ _ _ _ _ _ _ 1 _ _ c.requires.1 m i j (omega arith) (omega arith) (omega arith))), simp length-set c.loop-j.invariant.1, omega arith)

pub loop-i-preserved : goal.loop-i-preserved
loop-i-preserved c = (upto-at _ _ _ _ (omega arith) c.loop-j.invariant.0, c.loop-j.invariant.1, omega arith)

pub loop-m-preserved : goal.loop-m-preserved
loop-m-preserved c = (upto-at _ _ _ _ (omega arith) c.loop-i.invariant.0, c.loop-i.invariant.1, omega arith)

pub returns : goal.returns
returns c = unfold interleaved_of in upto_all _ _ 512 _ c.loop-m.invariant.0 c.loop-m.invariant.1 (omega arith)

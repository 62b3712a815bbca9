-- `direction_lane_sums::pairs` meets its contract.
use mathlib.Core.Path.{◌≡◌, refl, sym}
use mathlib.Core.List.{List}
use Prim.Native.Nat.{ℕ, ◌+◌, ◌*◌, ◌/◌, ◌%◌, ◌≤◌, ◌<◌}
use native.Mathlib.Nat.{mul-le-mul_right}
use native.Mathlib.Omega.{arith}
use lib.IntN.{ℤ, pos}
use lib.ListN.{get_or, length-set}
use mir.Syntax.{w16}
use mir.Val.{to_z, of_z}
use Rattle.arith_sample.specs.Upto.{upto-none, upto-more, upto-at, upto_all}
use Rattle.arith_sample.proofs.Joins.{Is, add_ok, add_is, back_is}
use Rattle.direction_lane_sums.specs.Lines.{neighbour_sum, neighbour_sums}
use Rattle.direction_lane_sums.proofs.pairs.Goals as goal
use Rattle.direction_lane_sums.proofs.pairs.Goals.{After-add, In-loop-i, Start}

-- the two groups of an iteration are in the array
inside : (c : In-loop-i)
    → let a = c.args in c.loop-m.m * a.down + c.loop-i.i * a.apart + a.next + 8 ≤ 512
inside c =
    let m : c.loop-m.m ≤ 3 = omega arith in
    let i : c.loop-i.i ≤ 7 = omega arith in
    omega (arith, mul-le-mul_right c.args.down m, mul-le-mul_right c.args.apart i, c.requires.0)

-- what was read
at : (s : Start) (k : ℕ) → Is (get_or s.args.s.now k (pos 0)) (get_or s.args.s.now k (pos 0)) 128
at s k = record { is = refl; small = s.requires.1.all k }

read : (c : After-add)
    → let a = c.args in to_z w16 (of_z w16 c.add.result) ≡ neighbour_sum a.s.now (c.loop-m.m * a.down + c.loop-i.i * a.apart) a.next c.loop-l.l
unfolding neighbour_sum
read c = back_is (add_is (at c.before.before.before.before.before.before.before.before.before _) (at c.before.before.before.before.before.before.before.before.before _) (omega arith) c.add.ensures) (omega arith)

-- the sum of the two, at its index
sum-at : (s : List ℤ) (down on next m i l k : ℕ) (r : ℤ) → i < 8 → l < 8 → k ≡ m * 64 + i * 8 + l → r ≡ neighbour_sum s (m * down + i * on) next l
    → r ≡ neighbour_sum s (k / 64 * down + k / 8 % 8 * on) next (k % 8)
sum-at s down on next m i l k r hi hl e g =
    let a : k / 64 ≡ m = omega arith in
    let b : k / 8 % 8 ≡ i = omega arith in
    let d : k % 8 ≡ l = omega arith in
    rw (a, b, d) g

pub loop-m-init : goal.loop-m-init
loop-m-init c = (sym (upto-none _), refl, omega arith)

pub loop-i-init : goal.loop-i-init
loop-i-init c = (upto-at _ _ _ _ (omega arith) c.loop-m.invariant.0, c.loop-m.invariant.1, omega arith)

pub overflow_mul-a : goal.overflow_mul-a
overflow_mul-a c = omega (arith, inside c)

pub overflow_mul-a-in-loop-i : goal.overflow_mul-a-in-loop-i
overflow_mul-a-in-loop-i c = omega (arith, inside c)

pub overflow_add-a : goal.overflow_add-a
overflow_add-a c = omega (arith, inside c)

pub overflow_add-b : goal.overflow_add-b
overflow_add-b c = omega (arith, inside c)

pub loop-l-init : goal.loop-l-init
loop-l-init c = (upto-at _ _ _ _ (omega arith) c.loop-i.invariant.0, c.loop-i.invariant.1, omega arith)

pub overflow_add-a-in-loop-l : goal.overflow_add-a-in-loop-l
overflow_add-a-in-loop-l c = omega (arith, inside c.before.before)

pub offset_bounds-s-a : goal.offset_bounds-s-a
offset_bounds-s-a c = omega (arith, inside c.before.before)

pub bounds-s-a : goal.bounds-s-a
bounds-s-a c = omega (arith, inside c.before.before)

pub overflow_add-b-in-loop-l : goal.overflow_add-b-in-loop-l
overflow_add-b-in-loop-l c = omega (arith, inside c.before.before.before)

pub offset_bounds-s-b : goal.offset_bounds-s-b
offset_bounds-s-b c = omega (arith, inside c.before.before.before)

pub bounds-s-b : goal.bounds-s-b
bounds-s-b c = omega (arith, inside c.before.before.before)

pub add-requires : goal.add-requires
add-requires c = add_ok (at c.before.before.before.before.before.before.before.before _) (at c.before.before.before.before.before.before.before.before _) (omega arith)

pub loop-l-preserved : goal.loop-l-preserved
loop-l-preserved c = (upto-at _ _ _ _ (omega arith) (upto-more _ _ _ _ c.loop-l.invariant.0 (omega arith) (sum-at _ c.args.down c.args.apart c.args.next _ _ _ _ _ c.loop-i-test.true c.loop-l-test.true refl (read c))), simp length-set c.loop-l.invariant.1, omega arith)

pub loop-i-preserved : goal.loop-i-preserved
loop-i-preserved c = (upto-at _ _ _ _ (omega arith) c.loop-l.invariant.0, c.loop-l.invariant.1, omega arith)

pub loop-m-preserved : goal.loop-m-preserved
loop-m-preserved c = (upto-at _ _ _ _ (omega arith) c.loop-i.invariant.0, c.loop-i.invariant.1, omega arith)

pub returns : goal.returns
returns c = unfold neighbour_sums in upto_all _ _ 256 _ c.loop-m.invariant.0 c.loop-m.invariant.1 (omega arith)

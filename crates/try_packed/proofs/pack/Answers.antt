-- `try_packed::pack` meets its contract.
use mathlib.Core.Path.{◌≡◌, refl, sym, ap}
use Prim.Native.Nat.{ℕ, ◌+◌, ◌*◌, ◌/◌, ◌%◌}
use native.Mathlib.Nat.{zero-mul}
use native.Mathlib.Omega.{arith}
use lib.ListN.{length, take, length-set}
use Rattle.arith_sample.specs.Upto.{upto, upto-none, upto-more, upto-at}
use Rattle.distance_sums.specs.Blocks.{at}
use Rattle.try_packed.specs.Rows.{rows_of}
use Rattle.try_packed.specs.RowLaws.{packed-four, packed-wide, row_low, stored}
use Rattle.try_packed.proofs.pack.Goals as goal
use Rattle.try_packed.proofs.pack.Goals.{Joined-cols-eq8, else-cols-eq8, then-cols-eq8+else-loop-j-then-cols-eq8-test}

pub loop-i-init : goal.loop-i-init
loop-i-init c = (upto-at _ _ _ _ (sym (zero-mul _)) (sym (upto-none _)), refl, omega arith)

pub overflow_mul-from : goal.overflow_mul-from
overflow_mul-from c = omega (arith, c.requires.1 c.loop-i.i c.loop-i-test.true)

pub overflow_add-from : goal.overflow_add-from
overflow_add-from c = omega (arith, c.requires.1 c.loop-i.i c.loop-i-test.true)

pub overflow_mul-to : goal.overflow_mul-to
overflow_mul-to c = omega (arith, row_low _ _ _ c.requires.0 c.loop-i-test.true)

pub loop-j-init : goal.loop-j-init
loop-j-init c = let p = c.before in (upto-at _ _ _ _ (omega arith) p.loop-i.invariant.0, p.loop-i.invariant.1, omega arith, refl, refl)

pub overflow_add-b : goal.overflow_add-b
overflow_add-b c = omega (arith, c.requires.1 c.loop-i.i c.loop-i-test.true, packed-wide _ _ c.requires.0)

pub offset_bounds-s-from : goal.offset_bounds-s-from
offset_bounds-s-from c = omega (arith, c.requires.1 c.loop-i.i c.loop-i-test.true, packed-wide _ _ c.requires.0)

pub bounds-s-from : goal.bounds-s-from
bounds-s-from c = omega (arith, c.requires.1 c.loop-i.i c.loop-i-test.true, packed-wide _ _ c.requires.0)

pub overflow_add-b-in-loop-j : goal.overflow_add-b-in-loop-j
overflow_add-b-in-loop-j c = omega (arith, row_low _ _ _ c.requires.0 c.loop-i-test.true, packed-wide _ _ c.requires.0)

pub offset_bounds-b-to : goal.offset_bounds-b-to
offset_bounds-b-to c = omega (arith, row_low _ _ _ c.requires.0 c.loop-i-test.true, packed-wide _ _ c.requires.0)

pub bounds-b-to : goal.bounds-b-to
bounds-b-to c = omega (arith, row_low _ _ _ c.requires.0 c.loop-i-test.true, packed-wide _ _ c.requires.0)

pub loop-j-preserved : goal.loop-j-preserved
loop-j-preserved c = let p = c.before.before in
    (upto-at _ _ _ _ (omega arith) (upto-more _ _ _ _ p.loop-j.invariant.0 (omega (arith, row_low _ _ _ c.requires.0 c.loop-i-test.true, packed-wide _ _ c.requires.0, p.loop-j.invariant.1)) (stored _ _ _ _ _ _ (omega (arith, packed-wide _ _ c.requires.0)))), simp length-set p.loop-j.invariant.1, omega arith, refl, refl)

pub loop-j-then-cols-eq8-init : goal.loop-j-then-cols-eq8-init
loop-j-then-cols-eq8-init c = let p = c.before.before in (upto-at _ _ _ _ (omega arith) p.loop-j.invariant.0, p.loop-j.invariant.1, omega arith, refl, refl)

pub overflow_add-b-in-loop-j-then-cols-eq8 : goal.overflow_add-b-in-loop-j-then-cols-eq8
overflow_add-b-in-loop-j-then-cols-eq8 c = omega (arith, c.requires.1 c.loop-i.i c.loop-i-test.true, c.if-cols-eq8.true)

pub offset_bounds-s-from-in-loop-j-then-cols-eq8 : goal.offset_bounds-s-from-in-loop-j-then-cols-eq8
offset_bounds-s-from-in-loop-j-then-cols-eq8 c = omega (arith, c.requires.1 c.loop-i.i c.loop-i-test.true, c.if-cols-eq8.true)

pub bounds-s-from-in-loop-j-then-cols-eq8 : goal.bounds-s-from-in-loop-j-then-cols-eq8
bounds-s-from-in-loop-j-then-cols-eq8 c = omega (arith, c.requires.1 c.loop-i.i c.loop-i-test.true, c.if-cols-eq8.true)

pub overflow_add-b-in-loop-j-then-cols-eq8-2 : goal.overflow_add-b-in-loop-j-then-cols-eq8-2
overflow_add-b-in-loop-j-then-cols-eq8-2 c = omega (arith, row_low _ _ _ c.requires.0 c.loop-i-test.true, c.if-cols-eq8.true)

pub offset_bounds-b-to-in-loop-j-then-cols-eq8 : goal.offset_bounds-b-to-in-loop-j-then-cols-eq8
offset_bounds-b-to-in-loop-j-then-cols-eq8 c = omega (arith, row_low _ _ _ c.requires.0 c.loop-i-test.true, c.if-cols-eq8.true)

pub bounds-b-to-in-loop-j-then-cols-eq8 : goal.bounds-b-to-in-loop-j-then-cols-eq8
bounds-b-to-in-loop-j-then-cols-eq8 c = omega (arith, row_low _ _ _ c.requires.0 c.loop-i-test.true, c.if-cols-eq8.true)

pub loop-j-then-cols-eq8-preserved : goal.loop-j-then-cols-eq8-preserved
loop-j-then-cols-eq8-preserved c = let p = c.before.before in
    (upto-at _ _ _ _ (omega arith) (upto-more _ _ _ _ p.loop-j-then-cols-eq8.invariant.0 (omega (arith, row_low _ _ _ c.requires.0 c.loop-i-test.true, c.if-cols-eq8.true, p.loop-j-then-cols-eq8.invariant.1)) (stored _ _ _ _ _ _ (omega (arith, c.if-cols-eq8.true)))), simp length-set p.loop-j-then-cols-eq8.invariant.1, omega arith, refl, refl)

-- a row, of four columns or of eight
row_done : (c : Joined-cols-eq8) → let a = c.args in let n = (c.loop-i.i + 1) * a.cols in
    (take n c.if-cols-eq8.b ≡ upto (λ (k : ℕ). at a.s.now a.start a.pitch (k / a.cols) (k % a.cols)) n) × (length c.if-cols-eq8.b ≡ 64)
row_done c =
    elim c.if-cols-eq8.branch [
      | then-cols-eq8+else-loop-j-then-cols-eq8-test w ↦ rw w.b-is (upto-at _ _ _ _ (omega arith) w.loop-j-then-cols-eq8.invariant.0, w.loop-j-then-cols-eq8.invariant.1)
      | else-cols-eq8 w ↦ rw w.b-is (upto-at _ _ _ _ (omega (arith, packed-four _ _ c.requires.0 w.if-cols-eq8.false)) c.loop-j.invariant.0, c.loop-j.invariant.1)
    ]

pub loop-i-preserved : goal.loop-i-preserved
loop-i-preserved c = let d = row_done c in (d.0, d.1, omega arith)

pub returns : goal.returns
returns c = unfold rows_of in let l = c.loop-i in let full : l.i ≡ c.args.rows = omega arith in upto-at _ _ _ _ (ap (λ (n : ℕ). n * c.args.cols) full) l.invariant.0

-- `distance_sums::total` meets its contract.
--
use mathlib.Core.Path.{◌≡◌, refl, ◌∙◌}
use Prim.Native.Nat.{◌+◌, ◌*◌, ◌≤◌}
use native.Mathlib.Omega.{arith}
use lib.ListN.{get_or, get_or-replicate}
use Rattle.distance_sums.specs.SumLaws.{sum-none, sum_more}
use Rattle.distance_sums.specs.ColumnLaws.{column-low, columns-none, columns-more, columns-row, columns-eight, columns-all}
use Rattle.distance_sums.proofs.total.Goals as goal
use Rattle.distance_sums.proofs.total.Goals.{In-loop-c}

-- a column's sum
entry : (c : In-loop-c) → get_or c.loop-i.col c.before.loop-c.c-index 0 ≤ 32760
entry c = let l = c.before.loop-c in omega (arith, l.invariant.3.left l.c-index (omega arith) c.loop-c-test.true, column-low _ l.c-index 8 l.invariant.4 c.loop-c-test.true (omega arith))

pub loop-i-init : goal.loop-i-init
loop-i-init c = (columns-none _ _ refl (λ k h. get_or-replicate 8 k 0 0 h), omega arith, c.requires)

pub loop-j-init : goal.loop-j-init
loop-j-init c = let l = c.before.loop-i in (l.invariant.0, omega arith, omega arith, l.invariant.2, refl)

pub overflow_add-col-in-loop-j : goal.overflow_add-col-in-loop-j
overflow_add-col-in-loop-j c = let l = c.before.before.loop-j in
    omega (arith, l.invariant.0.left l.j (omega arith) c.before.loop-j-test.true, column-low _ l.j c.before.before.before.before.loop-i.i l.invariant.3 c.before.loop-j-test.true (omega arith), l.invariant.3.each (c.before.before.before.before.loop-i.i * 8 + l.j) (omega arith))

pub loop-j-preserved : goal.loop-j-preserved
loop-j-preserved c = let l = c.before.before.loop-j in (columns-more _ _ _ _ c.before.loop-j-test.true l.invariant.0, omega arith, omega arith, l.invariant.3, l.invariant.4)

pub loop-i-preserved : goal.loop-i-preserved
loop-i-preserved c = let l = c.before.loop-j in (columns-row _ _ _ _ (omega arith) l.invariant.0, omega arith, l.invariant.3)

pub loop-c-init : goal.loop-c-init
loop-c-init c = let l = c.before.loop-i in (sum-none _, omega arith, omega arith, columns-eight _ _ _ (omega arith) l.invariant.0, l.invariant.2)

pub overflow_cast-t : goal.overflow_cast-t
overflow_cast-t c = omega (arith, entry c)

pub overflow_add-t : goal.overflow_add-t
overflow_add-t c = omega (arith, entry c)

pub loop-c-preserved : goal.loop-c-preserved
loop-c-preserved c = let l = c.before.loop-c in (rw l.invariant.0 (sum_more _ _), omega arith, omega (arith, entry c), l.invariant.3, l.invariant.4)

pub returns : goal.returns
returns c = let l = c.before.loop-c in let e : l.c-index ≡ 8 = omega arith in l.invariant.0 ∙ rw e (columns-all _ _ l.invariant.3)

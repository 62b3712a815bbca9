-- `distance_sums::block_of` meets its contract.
use mathlib.Core.Path.{refl, sym}
use Prim.Native.Nat.{◌+◌, ◌*◌, ◌≤◌}
use native.Mathlib.Omega.{arith}
use lib.ListN.{length, length-set}
use Rattle.arith_sample.specs.Upto.{upto-none, upto-more, upto-at, upto_all}
use Rattle.distance_sums.specs.Blocks.{block_of}
use Rattle.distance_sums.specs.BlockLaws.{stored}
use Rattle.distance_sums.proofs.block_of.Goals as goal
use Rattle.distance_sums.proofs.block_of.Goals.{In-loop-i}

-- a row lies in the list
row : (c : In-loop-i) → let a = c.before.before.args in a.start + c.before.loop-i.i * a.pitch + 8 ≤ length a.s.now
row c = c.before.before.requires c.before.loop-i.i c.loop-i-test.true

pub loop-i-init : goal.loop-i-init
loop-i-init c = (sym (upto-none _), refl, omega arith)

pub overflow_mul-from : goal.overflow_mul-from
overflow_mul-from c = omega (arith, row c)

pub overflow_add-from : goal.overflow_add-from
overflow_add-from c = omega (arith, row c)

pub loop-j-init : goal.loop-j-init
loop-j-init c = let p = c.before in (upto-at _ _ _ _ (omega arith) p.loop-i.invariant.0, p.loop-i.invariant.1, omega arith)

pub overflow_add-b : goal.overflow_add-b
overflow_add-b c = omega (arith, c.requires c.loop-i.i c.loop-i-test.true)

pub offset_bounds-s-from : goal.offset_bounds-s-from
offset_bounds-s-from c = omega (arith, c.requires c.loop-i.i c.loop-i-test.true)

pub bounds-s-from : goal.bounds-s-from
bounds-s-from c = omega (arith, c.requires c.loop-i.i c.loop-i-test.true)

pub loop-j-preserved : goal.loop-j-preserved
loop-j-preserved c = let p = c.before.before in (upto-at _ _ _ _ (omega arith) (upto-more _ _ _ _ p.loop-j.invariant.0 (omega arith) (stored _ _ _ _ _ c.before.loop-j-test.true)), simp length-set p.loop-j.invariant.1, omega arith)

pub loop-i-preserved : goal.loop-i-preserved
loop-i-preserved c = let p = c.before in (upto-at _ _ _ _ (omega arith) p.loop-j.invariant.0, p.loop-j.invariant.1, omega arith)

pub returns : goal.returns
returns c = unfold block_of in let p = c.before in upto_all _ _ 64 _ p.loop-i.invariant.0 p.loop-i.invariant.1 (omega arith)

-- `try_packed::packed_distances` meets its contract.
use mathlib.Core.Path.{refl, sym, ◌∙◌}
use Prim.Native.Nat.{◌*◌}
use native.Mathlib.Nat.{mul_comm}
use native.Mathlib.Omega.{arith}
use lib.ListN.{length-set}
use Rattle.arith_numbers.specs.PackedLaws.{width_low, runs-are, area, few}
use Rattle.arith_sample.specs.Upto.{upto-none, upto-more, upto_all}
use Rattle.try_packed.specs.Rows.{packed_distances}
use Rattle.try_packed.specs.RowLaws.{both-low, rows-squares, runs-held}
use Rattle.try_packed.proofs.packed_distances.Goals as goal

pub pack-a-requires : goal.pack-a-requires
pack-a-requires c = let p = c.before.before.requires in (p.0, p.1.held)

pub overflow_mul-n : goal.overflow_mul-n
overflow_mul-n c = let s = c.before.before.before in omega (arith, area _ _ s.requires.0, (width_low _ _ s.requires.0).1, mul_comm s.args.cols s.args.rows)

pub loop-t-init : goal.loop-t-init
loop-t-init c = (sym (upto-none _), refl, omega arith)

pub squares_of-requires : goal.squares_of-requires
squares_of-requires c = let s = c.before.before.before.before.before.before in
    let k = s.requires.0 in
    let w = s.requires.2 _ c.before.loop-t-test.true in
    record { inside = (few _ _ k, runs-held _ _ _ _ _ w); samples_taken = λ n h. both-low _ _ _ _ _ _ _ _ k c.before.before.before.pack-a.ensures s.requires.1 w n (omega (arith, runs-are _ _ k)) }

pub loop-t-preserved : goal.loop-t-preserved
loop-t-preserved c = let s = c.before.before.before.before.before.before.before in
    let l = c.before.before.before.loop-t in
    let e = rows-squares _ s.args.blocks.now _ _ _ (l.t * 64) _ _ s.requires.0 c.before.before.before.before.pack-a.ensures in
    (upto-more _ _ _ _ l.invariant.0 (omega arith) (unfold packed_distances in c.squares_of.ensures ∙ rw (runs-are _ _ s.requires.0) e), simp length-set l.invariant.1, omega arith)

pub returns : goal.returns
returns c = let l = c.before.loop-t in upto_all _ _ 12 _ l.invariant.0 l.invariant.1 (omega arith)

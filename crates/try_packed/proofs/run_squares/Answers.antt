-- `try_packed::run_squares` meets its contract.
use mathlib.Core.Path.{◌≡◌, ap, ◌∙◌}
use Prim.Native.Nat.{ℕ, ◌≤◌, ◌<◌}
use native.Mathlib.Omega.{arith}
use lib.IntN.{ℤ, pos, ◌-ℤ◌}
use mir.Syntax.{w16}
use mir.Val.{to_z, of_z}
use Rattle.cdef_spec.specs.SignedLaws.{back, size-diff}
use Rattle.cdef_spec.specs.Standard.{square}
use Rattle.cdef_spec.specs.Distance.{squared_difference}
use Rattle.distance_sums.specs.SumLaws.{sum-none, sum_more, difference-square}
use Rattle.try_packed.specs.RowLaws.{square-high}
use Rattle.try_packed.proofs.run_squares.Goals as goal

-- the square of an iteration
one : (x y : ℕ) (d : ℤ) (r : ℕ) → (x < 4096) × (y < 4096) → d ≡ pos x -ℤ pos y → r ≡ square (to_z w16 (of_z w16 d)) → (r ≡ squared_difference x y) × (squared_difference x y ≤ 16769025)
one x y d r l e er = (er ∙ ap square (rw e (back w16 (pos x -ℤ pos y) (omega (arith, size-diff x y, l.0, l.1)))) ∙ difference-square x y, square-high x y l.0 l.1)

pub loop-j-init : goal.loop-j-init
loop-j-init c = (sum-none _, omega arith, omega arith)

pub overflow_add-k : goal.overflow_add-k
overflow_add-k c = omega (arith, c.requires.inside)

pub offset_bounds-a-k : goal.offset_bounds-a-k
offset_bounds-a-k c = omega (arith, c.requires.inside)

pub bounds-a-k : goal.bounds-a-k
bounds-a-k c = omega (arith, c.requires.inside)

pub overflow_add-from : goal.overflow_add-from
overflow_add-from c = omega (arith, c.requires.inside)

pub offset_bounds-s-from : goal.offset_bounds-s-from
offset_bounds-s-from c = omega (arith, c.requires.inside)

pub bounds-s-from : goal.bounds-s-from
bounds-s-from c = omega (arith, c.requires.inside)

pub difference-requires : goal.difference-requires
difference-requires c = let l = c.requires.samples_taken _ c.loop-j-test.true in (omega (arith, l.0), omega (arith, l.1))

pub overflow_add-t : goal.overflow_add-t
overflow_add-t c = omega (arith, one _ _ _ _ (c.requires.samples_taken _ c.loop-j-test.true) c.difference.ensures c.square_of-t.ensures)

pub loop-j-preserved : goal.loop-j-preserved
loop-j-preserved c =
    let l = c.loop-j in
    let s = one _ _ _ _ (c.requires.samples_taken _ c.loop-j-test.true) c.difference.ensures c.square_of-t.ensures in
    (rw (l.invariant.0, s.0) (sum_more _ _), omega arith, omega (arith, s))

pub returns : goal.returns
returns c = let l = c.loop-j in let e : l.j ≡ 16 = omega arith in l.invariant.0 ∙ rw e

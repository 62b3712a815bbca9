-- `plane_rows::store` meets its contract.
use mathlib.Core.Path.{◌≡◌, refl, sym, ◌∙◌}
use native.Mathlib.Omega.{arith}
use lib.ListN.{length-set}
use Rattle.plane_rows.specs.StoreLaws.{placed-none, placed-next-from, rows_none, rows_next}
use Rattle.plane_rows.proofs.store.Goals as goal

pub loop-i-init : goal.loop-i-init
loop-i-init c = (sym (rows_none _ _ _ _ _), refl, omega arith)

pub overflow_mul-at : goal.overflow_mul-at
overflow_mul-at c = omega (arith, c.before.before.requires.1 c.before.loop-i.i (omega arith))

pub overflow_add-at : goal.overflow_add-at
overflow_add-at c = omega (arith, c.before.before.requires.1 c.before.loop-i.i (omega arith))

pub overflow_mul-from : goal.overflow_mul-from
overflow_mul-from c = omega (arith, c.before.before.requires.0)

pub loop-j-init : goal.loop-j-init
loop-j-init c = (sym (placed-none _ _ _ _), refl, omega arith)

pub overflow_add-dst-in-loop-j : goal.overflow_add-dst-in-loop-j
overflow_add-dst-in-loop-j c = omega (arith, c.before.before.before.before.before.requires.1 c.before.before.before.before.loop-i.i (omega arith))

pub offset_bounds-dst-at : goal.offset_bounds-dst-at
offset_bounds-dst-at c = omega (arith, c.before.before.before.before.before.requires.1 c.before.before.before.before.loop-i.i (omega arith))

pub bounds-dst-at : goal.bounds-dst-at
bounds-dst-at c = omega (arith, c.before.before.before.before.before.requires.1 c.before.before.before.before.loop-i.i (omega arith), c.before.before.loop-j.invariant.1, c.before.before.before.before.loop-i.invariant.1)

pub loop-j-preserved : goal.loop-j-preserved
loop-j-preserved c = let p = c.before.before.loop-j in (placed-next-from _ _ _ _ _ _ p.invariant.0, simp length-set p.invariant.1, omega arith)

pub loop-i-preserved : goal.loop-i-preserved
loop-i-preserved c = let p = c.before.loop-j in
    let o = c.before.before.before.loop-i in
    let full : p.j ≡ 8 = omega arith in
    (rows_next _ _ _ _ _ _ _ 8 o.invariant.0 (p.invariant.0 ∙ rw full), p.invariant.1 ∙ o.invariant.1, omega arith)

pub shape_of-dst : goal.shape_of-dst
shape_of-dst c = c.before.loop-i.invariant.1

pub returns : goal.returns
returns c = let full : c.before.loop-i.i ≡ c.before.before.args.n = omega arith in c.before.loop-i.invariant.0 ∙ rw full

-- `plane_fours::store` meets its contract.
use Rattle.plane_fours.specs.FourReachLaws.{row_low}
use Rattle.std.proofs.Common.{◌≡◌, ℕ, ◌+◌, ◌*◌, List, get_or, set, sym, refl, ◌∙◌, arith, length-set}
use Rattle.plane_rows.specs.Rows.{placed, placed_rows}
use Rattle.plane_rows.specs.StoreLaws.{placed-none, placed-more, rows_none, rows_more}
use Rattle.plane_fours.proofs.store.Goals as goal

step : (d l v : List ℕ) (at from j : ℕ) → d ≡ placed l at v from j → set d (at + j) (get_or v (from + j) 0) ≡ placed l at v from (j + 1)
step d l v at from j e = rw (placed-more l at v from j, e)

row : (l d last v : List ℕ) (w to i : ℕ) → d ≡ placed_rows l w to v 4 i → last ≡ placed d (to + i * w) v (i * 4) 4 → last ≡ placed_rows l w to v 4 (i + 1)
row l d last v w to i e h = h ∙ rw (rows_more l w to v 4 i, e)

pub loop-i-init : goal.loop-i-init
loop-i-init c = (sym (rows_none _ _ _ _ _), refl, omega arith)

pub overflow_mul-at : goal.overflow_mul-at
overflow_mul-at c = omega (arith, row_low c.before.before.args.w c.before.loop-i.i (omega arith), c.before.before.requires.0)

pub overflow_add-at : goal.overflow_add-at
overflow_add-at c = omega (arith, row_low c.before.before.args.w c.before.loop-i.i (omega arith), c.before.before.requires.0)

pub loop-j-init : goal.loop-j-init
loop-j-init c = (sym (placed-none _ _ _ _), refl, omega arith)

pub overflow_add-dst-in-loop-j : goal.overflow_add-dst-in-loop-j
overflow_add-dst-in-loop-j c = omega (arith, row_low c.before.before.before.before.args.w c.before.before.before.loop-i.i (omega arith), c.before.before.before.before.requires.0)

pub offset_bounds-dst-at : goal.offset_bounds-dst-at
offset_bounds-dst-at c = omega (arith, row_low c.before.before.before.before.args.w c.before.before.before.loop-i.i (omega arith), c.before.before.before.before.requires.0)

pub bounds-dst-at : goal.bounds-dst-at
bounds-dst-at c = omega (arith, row_low c.before.before.before.before.args.w c.before.before.before.loop-i.i (omega arith), c.before.before.before.before.requires.0, c.before.loop-j.invariant.1, c.before.before.before.loop-i.invariant.1)

pub loop-j-preserved : goal.loop-j-preserved
loop-j-preserved c = let p = c.before.loop-j in (step _ _ _ _ _ _ p.invariant.0, simp length-set p.invariant.1, omega arith)

pub loop-i-preserved : goal.loop-i-preserved
loop-i-preserved c = let p = c.before.loop-j in
    let o = c.before.before.before.loop-i in
    let full : p.j ≡ 4 = omega arith in
    (row _ _ _ _ _ _ _ o.invariant.0 (p.invariant.0 ∙ rw full), p.invariant.1 ∙ o.invariant.1, omega arith)

pub shape_of-dst : goal.shape_of-dst
shape_of-dst c = c.before.loop-i.invariant.1

pub returns : goal.returns
returns c = let full : c.before.loop-i.i ≡ 4 = omega arith in c.before.loop-i.invariant.0 ∙ rw full

-- `filter_store::store_row` meets its contract.
use mathlib.Core.Path.{◌≡◌, refl, sym, ◌∙◌}
use mathlib.Core.List.{List}
use Prim.Native.Nat.{ℕ, ◌+◌, ◌-◌, ◌*◌}
use native.Mathlib.Omega.{arith}
use lib.ListN.{get_or, set, length-set}
use Rattle.cdef_spec.specs.Document01.{unmarked, or_else}
use Rattle.cdef_spec.specs.LoopForm.{put, put_row}
use Rattle.cdef_spec.proofs.PlaneLaws.{row-none, row_more}
use Rattle.filter_store.specs.Row.{row_tap}
use Rattle.filter_store.proofs.store_row.Goals as goal

-- one sample more
step : (d l : List ℕ) (w r x j v : ℕ) (row : List ℕ) → d ≡ put_row l w (row_tap row x) r x j → v ≡ or_else (get_or d (r * w + (x + j)) 0) (unmarked (get_or row j 0)) → set d (r * w + (x + j)) v ≡ put_row l w (row_tap row x) r x (j + 1)
unfolding put row_tap
step d l w r x j v row e f = let k : x + j - x ≡ j = omega arith in rw (row_more l w (row_tap row x) r x j, k, ← e, f)

pub loop-j-init : goal.loop-j-init
loop-j-init c = (sym (row-none _ _ _ _ _), refl, omega arith)

pub loop-j-preserved : goal.loop-j-preserved
loop-j-preserved c = let p = c.before.before.before in
    (step _ _ _ _ _ _ _ _ p.loop-j.invariant.0 c.keep.ensures, simp length-set p.loop-j.invariant.1, omega arith)

pub returns : goal.returns
returns c = let full : c.before.loop-j.j ≡ c.before.before.before.args.n = omega arith in c.before.loop-j.invariant.0 ∙ rw full

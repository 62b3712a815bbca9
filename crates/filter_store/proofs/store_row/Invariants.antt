-- `filter_store::store_row` meets its contract.
use mathlib.Core.Path.{◌≡◌}
use Prim.Native.Nat.{◌-◌, ◌≤◌}
use lib.ListN.{length}
use Rattle.cdef_spec.specs.LoopForm.{put_row}
use Rattle.filter_store.specs.Row.{row_tap}
use Rattle.filter_store.proofs.store_row.Given as goal

abbrev pub invariant-loop-j : goal.invariant-loop-j
invariant-loop-j l = (l.dst ≡ put_row l.initial.dst l.w (row_tap l.row l.x) l.r l.x l.j) × (length l.dst ≡ length l.initial.dst) × (l.j ≤ l.n)

abbrev pub decreases-loop-j : goal.decreases-loop-j
decreases-loop-j l = l.n - l.j

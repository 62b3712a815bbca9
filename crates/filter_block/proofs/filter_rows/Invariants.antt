-- `filter_block::filter_rows` meets its contract.
use mathlib.Core.Path.{◌≡◌}
use Prim.Native.Nat.{◌-◌, ◌≤◌}
use lib.ListN.{length}
use Rattle.cdef_spec.specs.LoopForm.{put_block}
use Rattle.filter_block.specs.Store.{window_tap}
use Rattle.filter_block.proofs.filter_rows.Given as goal

abbrev pub invariant-loop-i : goal.invariant-loop-i
invariant-loop-i l = (l.dst ≡ put_block l.initial.dst l.w (window_tap l.win l.t l.f l.g l.y l.x) l.y l.x l.cols l.i) × (length l.dst ≡ length l.initial.dst) × (l.i ≤ l.rows)

abbrev pub decreases-loop-i : goal.decreases-loop-i
decreases-loop-i l = l.rows - l.i

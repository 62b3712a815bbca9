-- `trial_block::runs` meets its contract.
use mathlib.Core.Path.{◌≡◌}
use Prim.Native.Nat.{◌-◌, ◌*◌, ◌≤◌}
use lib.ListN.{length}
use Rattle.cdef_spec.specs.LoopForm.{put_block}
use Rattle.trial_sixteen.specs.Sixteen.{taps_or, raw_tap}
use Rattle.trial_block.proofs.runs.Given as goal

abbrev pub invariant-loop-i : goal.invariant-loop-i
invariant-loop-i l = (l.out ≡ put_block l.initial.out 64 (raw_tap l.l l.from l.own (taps_or l.own l.zero) l.u) 0 0 (l.i * 16) 12) × (length l.out ≡ 768) × (l.i ≤ l.n)

abbrev pub decreases-loop-i : goal.decreases-loop-i
decreases-loop-i l = l.n - l.i

-- `trial_any::trials` meets its contract.
use Rattle.std.proofs.Common.{◌≡◌, ◌+◌, ◌*◌, ◌≤◌, ◌<◌, length}
use Rattle.cdef_spec.specs.LoopForm.{put_block}
use Rattle.trial_any.specs.Any.{any_tap}
use Rattle.trial_any.proofs.trials.Given as goal

abbrev pub invariant-loop-j : goal.invariant-loop-j
invariant-loop-j l = (l.out ≡ put_block l.fn.out 64 (any_tap l.win l.u l.w) 0 0 (l.h * l.w) (l.j * 4)) × (length l.out ≡ 768) × (l.j ≤ 3)

abbrev pub invariant-loop-i : goal.invariant-loop-i
invariant-loop-i l = (l.out ≡ put_block l.fn.out 64 (any_tap l.win l.u l.w) 0 0 (l.h * l.w) (l.j * 4 + l.i)) × (length l.out ≡ 768) × (l.i ≤ 4) × (l.j < 3)

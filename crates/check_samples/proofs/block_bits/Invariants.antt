-- The bits of the rows so far.
use Rattle.std.proofs.Common.{◌≡◌}
use Rattle.check_samples.specs.Looked.{or_rows}
use Rattle.check_samples.proofs.block_bits.Given as goal

abbrev pub invariant-loop-i : goal.invariant-loop-i
invariant-loop-i l = l.bits ≡ or_rows l.plane.samples.now l.plane.width l.y l.x l.cols l.i

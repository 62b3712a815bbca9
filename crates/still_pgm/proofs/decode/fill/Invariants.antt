-- `still_pgm::decode::fill` meets its contract.
use Rattle.std.proofs.Common.{◌≡◌}
use Rattle.still_pgm.specs.Planes.{stored, padded_sample}
use Rattle.still_pgm.proofs.decode.fill.Given as goal

abbrev pub invariant-loop-k : goal.invariant-loop-k
invariant-loop-k l = l.plane ≡ stored (padded_sample l.samples l.h l.pitch) l.k l.initial.plane

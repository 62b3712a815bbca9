-- `still_pgm::encode::encode_rows` meets its contract.
use Rattle.std.proofs.Common.{◌≡◌}
use Rattle.still_pgm.specs.Planes.{stored, file_byte}
use Rattle.still_pgm.proofs.encode.encode_rows.Given as goal

abbrev pub invariant-loop-k : goal.invariant-loop-k
invariant-loop-k l = l.out ≡ stored (file_byte l.plane l.width l.pitch l.step) l.k l.initial.out

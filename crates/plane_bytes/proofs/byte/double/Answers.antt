-- `plane_bytes::byte::double` meets its contract.
use Rattle.std.proofs.Common.{refl, arith}
use Rattle.plane_bytes.specs.Byte.{weigh_sec}
use Rattle.plane_bytes.proofs.byte.double.Goals as goal

pub returns : goal.returns
unfolding weigh_sec
returns c = (refl, omega (arith, c.requires.0, c.requires.1))

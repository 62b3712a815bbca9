-- `plane_bytes::byte::pair` meets its contract.
use Rattle.std.proofs.Common.{arith}
use Rattle.plane_bytes.specs.ByteBounds.{pair-is}
use Rattle.plane_bytes.proofs.byte.pair.Goals as goal

pub returns : goal.returns
returns g c = (rw (c.apart.ensures.0, c.apart-2.ensures.0) (pair-is _ _ _ _ _ _), omega (arith, c.apart.ensures.1, c.apart-2.ensures.1))

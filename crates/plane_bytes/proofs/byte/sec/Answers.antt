-- `plane_bytes::byte::sec` meets its contract.
use Rattle.std.proofs.Common.{◌∙◌}
use Rattle.plane_bytes.specs.ByteBounds.{sec-is}
use Rattle.plane_bytes.proofs.byte.sec.Goals as goal

pub returns : goal.returns
returns g c = (c.double.ensures.0 ∙ rw (c.pair.ensures.0, c.pair-2.ensures.0, c.pair-3.ensures.0, c.pair-4.ensures.0) (sec-is _ _ _ _ _ _ _ _ _ _ _ _), c.double.ensures.1)

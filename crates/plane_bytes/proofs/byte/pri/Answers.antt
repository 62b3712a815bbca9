-- `plane_bytes::byte::pri` meets its contract.
use Rattle.std.proofs.Common.{◌∙◌}
use Rattle.plane_bytes.specs.ByteBounds.{pri-is}
use Rattle.plane_bytes.proofs.byte.pri.Goals as goal

pub returns : goal.returns
returns g c = (c.weigh.ensures.0 ∙ rw (c.pair.ensures.0, c.pair-2.ensures.0) (pri-is _ _ _ _ _ _ _ _ _), c.weigh.ensures.1)

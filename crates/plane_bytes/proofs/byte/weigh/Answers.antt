-- `plane_bytes::byte::weigh` meets its contract.
use Rattle.plane_bytes.specs.ByteBounds.{weigh-ok}
use Rattle.plane_bytes.proofs.byte.weigh.Goals as goal

pub returns : goal.returns
returns c = weigh-ok _ _ _ _ _ c.requires.0 c.requires.1 c.requires.2 c.min.ensures c.min-2.ensures

-- `plane_bytes::byte::four` meets its contract.
use Rattle.std.proofs.Common.{◌∙◌}
use Rattle.plane_bytes.specs.ByteBounds.{four-is}
use Rattle.plane_bytes.proofs.byte.four.Goals as goal

pub returns : goal.returns
returns g c = c.max-3.ensures ∙ rw (c.max.ensures, c.max-2.ensures, c.past.ensures, c.past-2.ensures, c.past-3.ensures, c.past-4.ensures) (four-is _ _ _ _ _ _)

-- `plane_bytes::byte::clipped` meets its contract.
use Rattle.plane_bytes.specs.Byte.{clipped_of}
use Rattle.plane_bytes.proofs.byte.clipped.Goals as goal

pub returns : goal.returns
unfolding clipped_of
returns c = rw (c.min.ensures, c.left.ensures, c.min-2.ensures, c.left-2.ensures)

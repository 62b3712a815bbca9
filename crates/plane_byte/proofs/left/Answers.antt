-- `plane_byte::left` meets its contract.
use Rattle.plane_byte.specs.Arithmetic.{excess_of}
use Rattle.plane_byte.proofs.left.Goals as goal

pub returns : goal.returns
unfolding excess_of
returns c = rw c.saturating_sub.ensures

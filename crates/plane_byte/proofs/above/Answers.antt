-- `plane_byte::above` meets its contract.
use Rattle.std.proofs.Common.{arith, ◌∙◌}
use Rattle.plane_byte.specs.Arithmetic.{above_of}
use Rattle.plane_byte.proofs.above.Goals as goal

pub returns : goal.returns
unfolding above_of
returns c = (c.min.ensures ∙ rw (c.saturating_sub-2.ensures, c.saturating_sub.ensures, c.saturating_sub-d.ensures), omega (arith, c.min.ensures, c.saturating_sub-2.ensures))

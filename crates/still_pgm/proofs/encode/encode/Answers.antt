-- `still_pgm::encode::encode` meets its contract.
use Rattle.std.proofs.Common.{arith}
use Rattle.still_pgm.specs.SizesLaws.{taken, step_range}
use Rattle.still_pgm.proofs.encode.encode.Goals as goal

pub encode_rows-requires-clause-sides : goal.encode_rows-requires-clause-sides
encode_rows-requires-clause-sides c = let t = taken _ _ c.args.f.now.taken in (t.width_low, omega (arith, c.pitch.ensures, t.width-high))

pub encode_rows-requires-clause-bytes : goal.encode_rows-requires-clause-bytes
encode_rows-requires-clause-bytes c = let s = step_range c.args.f.now.header.maximum in (omega (arith, c.step.ensures, s.0), omega (arith, c.step.ensures, s.1))

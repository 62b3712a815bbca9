-- `still_pgm::format::Format::rows` meets its contract.
use Rattle.still_pgm.specs.SizesLaws.{taken}
use Rattle.still_pgm.proofs.format.Format.rows.Goals as goal

pub padded_side-requires : goal.padded_side-requires
padded_side-requires c = (taken _ _ c.args.self.now.taken).height-high

-- `plane_bytes::eights::back` meets its contract.
use Rattle.std.proofs.Common.{◌∙◌}
use Rattle.plane_taps.specs.Runs.{back_by}
use Rattle.plane_bytes.specs.EightLaws.{back-byte, run-entries, wide_eight, along-eight}
use Rattle.plane_bytes.proofs.eights.back.Goals as goal

pub behind-requires : goal.behind-requires
behind-requires c = (wide_eight, along-eight c.args.w c.requires.1, c.requires.0)

pub bytes-requires : goal.bytes-requires
bytes-requires c = rw c.behind.ensures (back-byte c.args.src.now c.requires.2 c.args.w c.args.k c.args.o)

pub returns : goal.returns
unfolding back_by
returns c = c.bytes.ensures ∙ rw c.behind.ensures (run-entries _)

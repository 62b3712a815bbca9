-- `plane_bytes::eights::on` meets its contract.
use Rattle.std.proofs.Common.{◌∙◌}
use Rattle.plane_taps.specs.Runs.{on_by}
use Rattle.plane_bytes.specs.EightLaws.{on-byte, run-entries, wide_eight, along-eight}
use Rattle.plane_bytes.proofs.eights.on.Goals as goal

pub ahead-requires : goal.ahead-requires
ahead-requires c = (wide_eight, along-eight c.args.w c.requires.1, c.requires.0)

pub bytes-requires : goal.bytes-requires
bytes-requires c = rw c.ahead.ensures (on-byte c.args.src.now c.requires.2 c.args.w c.args.k c.args.o)

pub returns : goal.returns
unfolding on_by
returns c = c.bytes.ensures ∙ rw c.ahead.ensures (run-entries _)

-- `plane_bytes::eights::run` meets its contract.
use Rattle.std.proofs.Common.{◌∙◌, arith}
use Rattle.plane_taps.specs.Runs.{run_by}
use Rattle.plane_bytes.specs.EightLaws.{run-byte, run-entries, wide_eight}
use Rattle.plane_bytes.proofs.eights.run.Goals as goal

pub gather-requires : goal.gather-requires
gather-requires c = (wide_eight, omega arith, c.requires.1)

pub bytes-requires : goal.bytes-requires
bytes-requires c = rw c.gather.ensures (run-byte c.args.src.now c.requires.2 c.args.w c.args.k)

pub returns : goal.returns
unfolding run_by
returns c = c.bytes.ensures ∙ rw c.gather.ensures (run-entries _)

-- `plane_bytes::eights::bytes` meets its contract.
use Rattle.std.proofs.Common.{rules}
use Rattle.arith_sample.specs.FromFn.{from-each}
use Rattle.plane_bytes.proofs.eights.bytes.Goals as goal

pub returns : goal.returns
returns c = from-each _ _ (λ i y q e. search rules) _ 16 c.from_fn.ensures.items

-- `plane_bytes::eights::keep` meets its contract.
use Rattle.std.proofs.Common.{◌≡◌, slice_index, ◌∙◌, arith, rules}
use Rattle.arith_sample.specs.FromFn.{from-each}
use Rattle.plane_rows.specs.StoreLaws.{placed-whole}
use Rattle.plane_bytes.specs.EightLaws.{entries}
use Rattle.plane_bytes.proofs.eights.keep.Goals as goal

pub returns : goal.returns
returns c = let e : c.from_fn-wide.result ≡ c.args.v = from-each (slice_index c.args.v) _ (λ i y q e. search rules) _ 16 c.from_fn-wide.ensures.items ∙ entries c.args.v (omega arith) in
    rw (← e) (placed-whole _ _ _ _ 16 _ (omega arith) (omega arith) (omega arith) c.copy_from_slice.ensures.after)

-- `plane_rows::keep` meets its contract.
use Rattle.std.proofs.Common.{arith}
use Rattle.plane_rows.specs.StoreLaws.{placed-whole}
use Rattle.plane_rows.proofs.keep.Goals as goal

pub returns : goal.returns
returns c = placed-whole _ _ _ _ 8 _ (omega arith) (omega arith) (omega arith) c.copy_from_slice.ensures.after

-- `cdef_pairs::StrengthLists::count` meets its contract.
use Rattle.std.proofs.Common.{sym}
use Rattle.cdef_spec.proofs.OutcomeLaws.{length_pairs}
use Rattle.cdef_pairs.proofs.StrengthListsPairs.count.Goals as goal

pub returns : goal.returns
returns c = sym (length_pairs _ _)

-- `arith_damping::cdef_damping` meets its contract.
use Rattle.cdef_spec.specs.Document01.{quality_damping}
use Rattle.arith_damping.proofs.cdef_damping.Goals as goal

pub returns : goal.returns
returns c = unfold quality_damping in rw c.min.ensures

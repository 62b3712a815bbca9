-- `arith_damping::luma_damping` meets its contract.
use mathlib.Core.Path.{refl}
use Rattle.cdef_spec.specs.Document01.{luma_damping}
use Rattle.arith_damping.proofs.luma_damping.Goals as goal

pub returns : goal.returns
returns c = unfold luma_damping in refl

-- `arith_damping::chroma_damping` meets its contract.
use mathlib.Core.Path.{refl}
use Rattle.cdef_spec.specs.Document01.{chroma_damping}
use Rattle.arith_damping.proofs.chroma_damping.Goals as goal

pub returns : goal.returns
returns c = unfold chroma_damping in refl

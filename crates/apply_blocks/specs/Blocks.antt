-- What applying leaves of one block, in the code's form. Definitions only.
use Rattle.std.specs.Prelude.{cond, List, ℕ, ◌*◌}
use Rattle.cdef_spec.specs.declared.SignalledDamping.{SignalledDamping}
use Rattle.cdef_spec.specs.declared.UnitPair.{UnitPair}
use Rattle.cdef_spec.specs.Picture.{Picture, block_width, block_height, plane_width, unit_at, pair_at, written, filtered_by}
use Rattle.cdef_spec.specs.LoopForm.{put_block}

-- the block (by, bx), filtered with a pair
unfoldable pub block_filtered : Picture → SignalledDamping → List ℕ → UnitPair → ℕ → ℕ → List ℕ → List ℕ
block_filtered q d snapshot p by bx dst = put_block dst (plane_width q) (filtered_by q d snapshot p by bx) (by * block_height q) (bx * block_width q) (block_width q) (block_height q)

-- filtered with its unit's pair, or left as it is
unfoldable pub block_applied : Picture → SignalledDamping → List ℕ → List UnitPair → ℕ → ℕ → List ℕ → List ℕ
block_applied q d snapshot ps by bx dst = cond (written q ps by bx) (block_filtered q d snapshot (pair_at ps (unit_at q by bx)) by bx dst) dst

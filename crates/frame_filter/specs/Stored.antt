-- What filtering a block stores. Definitions only.
use Rattle.std.specs.Prelude.{List, ℕ, ◌+◌, ◌-◌, ◌*◌}
use Rattle.cdef_spec.specs.declared.SignalledDamping.{SignalledDamping}
use Rattle.cdef_spec.specs.declared.UnitPair.{UnitPair}
use Rattle.cdef_spec.specs.Picture.{Picture, block_width, block_height, plane_width, filtered_by}
use Rattle.cdef_spec.specs.LoopForm.{put_block}

-- the block (by, bx), filtered with a pair, in rows whose first is the plane's row y0
unfoldable pub block_stored : Picture → SignalledDamping → List ℕ → UnitPair → ℕ → ℕ → ℕ → List ℕ → List ℕ
block_stored q d snapshot p by bx y0 dst =
    put_block dst (plane_width q) (λ r c. filtered_by q d snapshot p by bx (y0 + r) c) (by * block_height q - y0) (bx * block_width q) (block_width q) (block_height q)

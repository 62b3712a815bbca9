-- The trial blocks of a block. Definitions only.
use Rattle.std.specs.Prelude.{List, ℕ}
use Rattle.cdef_spec.specs.declared.SignalledDamping.{SignalledDamping}
use Rattle.cdef_spec.specs.Words.{table}
use Rattle.cdef_spec.specs.BlockCalls.{trial_place}
use Rattle.cdef_spec.specs.Picture.{Picture, block_at, plane_of}
use Rattle.frame_shape.specs.Frame.{block_of, way_of, dir_of, damping_of}

-- the twelve trial blocks of a block, 64 entries each
unfoldable pub trial_blocks : Picture → SignalledDamping → List ℕ → ℕ → ℕ → List ℕ → List ℕ
trial_blocks q d snapshot by bx out = table 768 (trial_place (plane_of q snapshot) (block_of q by bx) (way_of q.kind (block_at q by bx)) (dir_of q.kind q.dirs (block_at q by bx)) (damping_of q.kind d q.depth) q.depth out)

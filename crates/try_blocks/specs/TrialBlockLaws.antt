-- The trial blocks of a block, as the code computes them.
use Rattle.std.specs.Prelude.{◌≡◌, List, ℕ, ◌≤◌, ◌<◌, get_or}
use Rattle.std.proofs.Common.{ap, arith}
use Rattle.cdef_spec.specs.declared.Block.{Block}
use Rattle.cdef_spec.specs.declared.SignalledDamping.{SignalledDamping}
use Rattle.cdef_spec.specs.Words.{table}
use Rattle.cdef_spec.specs.ChromaLaws.{chroma-low}
use Rattle.cdef_spec.specs.Document01.{Plane, luma_damping, chroma_damping}
use Rattle.cdef_spec.specs.declared.TrialWay.{TrialWay}
use Rattle.cdef_spec.specs.declared.WorkingDamping.{WorkingDamping}
use Rattle.cdef_spec.specs.BlockCalls.{trial_place}
use Rattle.cdef_spec.specs.Picture.{PlaneKind, luma, chroma, Picture, block_at, plane_of}
use Rattle.frame_shape.specs.Frame.{block_of, way_of, dir_of, damping_of}
use Rattle.frame_shape.specs.Shape.{InForce}
use Rattle.try_blocks.specs.TrialBlocks.{trial_blocks}

-- ---- a direction in the plane, and a working damping

pub dir-low : (k : PlaneKind) (dirs : List ℕ) (b : ℕ) → get_or dirs b 0 < 8 → dir_of k dirs b < 8
unfolding dir_of
dir-low (luma vars) dirs b h = h
dir-low (chroma sx sy) dirs b h = chroma-low sx sy (get_or dirs b 0) h

pub damping-low : (k : PlaneKind) (d : SignalledDamping) (depth : ℕ) → InForce d → depth ≤ 12 → (damping_of k d depth).0 ≤ 31
unfolding damping_of luma_damping chroma_damping
damping-low (luma vars) d depth i h = omega (arith, i.most)
damping-low (chroma sx sy) d depth i h = omega (arith, i.most)

-- ---- as the code computes them

pub trials-are : (q : Picture) (d : SignalledDamping) (p : Plane) → p ≡ plane_of q p.samples → (by bx : ℕ) (out : List ℕ) (b : Block) (k : ℕ) (way : TrialWay) (dir : ℕ) (damping : WorkingDamping)
    → b ≡ block_of q by bx → k ≡ block_at q by bx → way ≡ way_of q.kind k → dir ≡ dir_of q.kind q.dirs k → damping ≡ damping_of q.kind d q.depth
    → table 768 (trial_place p b way dir damping q.depth out) ≡ trial_blocks q d p.samples by bx out
unfolding trial_blocks
trials-are q d p ep by bx out b k way dir damping eb ek ey ed eg = rw (ey, ed, eg, ek, eb) (ap (λ (z : Plane). table 768 (trial_place z (block_of q by bx) (way_of q.kind (block_at q by bx)) (dir_of q.kind q.dirs (block_at q by bx)) (damping_of q.kind d q.depth) q.depth out)) ep)

-- A block filtered into the scratch, which then holds what Picture says, in samples of the depth.
use Rattle.std.specs.Prelude.{◌≡◌, refl, List, get_or}
use Rattle.std.proofs.Common.{◌∙◌}
use Prim.Native.Nat.{ℕ, ◌+◌, ◌-◌, ◌*◌, ◌^◌, ◌≤◌, ◌<◌}
use Rattle.std.proofs.Math.Nat.{mul-le-mul_right, mul_comm}
use native.Mathlib.Omega.{arith}
use Rattle.std.proofs.Math.ListN.{length}
use Rattle.cdef_spec.specs.declared.SignalledDamping.{SignalledDamping}
use Rattle.cdef_spec.specs.declared.UnitPair.{UnitPair}
use Rattle.cdef_spec.specs.Document01.{Plane, mark, or_else}
use Rattle.cdef_spec.specs.Picture.{Picture, block_width, block_height, plane_width, plane_height, filtered_by, block_rows, block_cols}
use Rattle.cdef_spec.proofs.PictureLaws.{filtered-here, filtered-low}
use Rattle.cdef_spec.specs.LoopForm.{put_block}
use Rattle.cdef_spec.proofs.PlaneLaws.{block_in as stored-in}
use Rattle.frame_shape.specs.Shape.{Shaped, Sampled}
use Rattle.cdef_spec.specs.FrameCalls.{scratch_length}
use Rattle.frame_shape.specs.ShapeLaws.{cols-in, rows_in}
use Rattle.frame_shape.specs.SampledLaws.{sample-low}
use Rattle.frame_filter.specs.Stored.{block_stored}
use Rattle.measure_plane.specs.Measure.{Filled, LowBlock}

module _ (q : Picture) (h : Shaped q) (src : Plane) (g : Sampled q src) (d : SignalledDamping) (p : UnitPair) (by bx : ℕ) (hy : by < block_rows q) (hx : bx < block_cols q) where
  unmarked-all : (k : ℕ) → get_or src.samples k 0 < mark
  unmarked-all k = omega (arith, sample-low q h src g k)

  pub has_room : (y0 n : ℕ) → y0 ≡ by * block_height q → n ≡ scratch_length q → (by * block_height q - y0 + block_height q) * plane_width q ≤ n
  has_room y0 n ey en =
      let k : by * block_height q - y0 + block_height q ≡ block_height q = omega arith in
      let t : plane_width q * block_height q ≡ scratch_length q = unfold scratch_length in refl in
      rw k (omega (arith, en, t, mul_comm (block_height q) (plane_width q)))

  -- the block is stored whole, from the scratch's first row on
  abbrev stored : List ℕ → List ℕ
  stored old = put_block old (plane_width q) (λ i c. filtered_by q d src.samples p by bx (by * block_height q + i) c) 0 (bx * block_width q) (block_width q) (block_height q)

  stored_is : (y0 : ℕ) (old last : List ℕ) → y0 ≡ by * block_height q → last ≡ block_stored q d src.samples p by bx y0 old → last ≡ stored old
  unfolding block_stored
  stored_is y0 old last ey e = let top : by * block_height q - by * block_height q ≡ 0 = omega arith in e ∙ rw (ey, top)

  filled : (old last : List ℕ) → length old ≡ scratch_length q → last ≡ stored old → Filled q d src.samples p by bx last
  unfolding Filled or_else
  filled old last len e i j hi hj =
      let r : by * block_height q + i < plane_height q = omega (arith, rows_in q h by bx hy hx) in
      let c : bx * block_width q + j < plane_width q = omega (arith, cols-in q h by bx hy hx) in
      let k : i + 1 ≤ block_height q = omega arith in
      let n : plane_width q * block_height q ≡ scratch_length q = unfold scratch_length in refl in
      let room : i * plane_width q + (bx * block_width q + j) < length old = omega (arith, mul-le-mul_right (plane_width q) k, len, n, mul_comm (block_height q) (plane_width q)) in
      let here = filtered-here q d src.samples p by bx (by * block_height q + i) (bx * block_width q + j) r c unmarked-all in
      rw e (stored-in (plane_width q) _ old 0 (bx * block_width q) (block_width q) (block_height q) i (bx * block_width q + j) c (omega (arith, cols-in q h by bx hy hx)) (omega arith) (omega arith) (omega arith) (omega arith) room ∙ rw here)

  -- its samples are of the depth
  filled-low : (l : List ℕ) → Filled q d src.samples p by bx l → (i j : ℕ) → i < block_height q → j < block_width q → get_or l (i * plane_width q + (bx * block_width q + j)) 0 < 2 ^ q.depth
  unfolding Filled
  filled-low l e i j hi hj =
      let r : by * block_height q + i < plane_height q = omega (arith, rows_in q h by bx hy hx) in
      let c : bx * block_width q + j < plane_width q = omega (arith, cols-in q h by bx hy hx) in
      rw (e i j hi hj) (filtered-low q d src.samples p by bx (by * block_height q + i) (bx * block_width q + j) r c unmarked-all (2 ^ q.depth) g.low mark)

  module _ (y0 : ℕ) (old last : List ℕ) (ey : y0 ≡ by * block_height q) (len : length old ≡ scratch_length q) (e : last ≡ block_stored q d src.samples p by bx y0 old) where
    pub filled-with : Filled q d src.samples p by bx last
    filled-with = filled old last len (stored_is y0 old last ey e)

    pub filled-block : LowBlock q bx last
    filled-block = record { each = filled-low last filled-with }

-- The rows of a block, in the scratch or in the plane: where its samples lie, and what they are.
use Rattle.std.specs.Prelude.{◌≡◌, List, ℕ, ◌+◌, ◌-◌, ◌*◌, ◌^◌, ◌≤◌, ◌<◌, take, drop}
use Rattle.std.proofs.Math.Path.{ap}
use Rattle.std.proofs.Common.{sym, ◌∙◌, mul_comm}
use Rattle.std.proofs.Math.Nat.{mul-le-mul_right}
use native.Mathlib.Omega.{arith}
use Rattle.std.proofs.Math.ListN.{get_or, length, length-drop}
use Rattle.std.proofs.Math.Seq.{length-take-le, get_or-take, get_or-drop}
use Rattle.cdef_spec.specs.Document01.{Plane}
use Rattle.cdef_spec.specs.Picture.{Picture, plane_width, plane_height, block_width, block_height, at_place, block_rows, block_cols}
use Rattle.distance_sums.specs.Blocks.{at, Within}
use Rattle.frame_shape.specs.Shape.{Shaped, Sampled}
use Rattle.cdef_spec.specs.FrameCalls.{scratch_length}
use Rattle.frame_shape.specs.ShapeLaws.{cols-in, rows_in}
use Rattle.measure_plane.specs.Measure.{row_sample, LowBlock}

module _ (q : Picture) (h : Shaped q) (by bx : ℕ) (hy : by < block_rows q) (hx : bx < block_cols q) where
  -- the block's first row and column
  abbrev top : ℕ
  top = by * block_height q

  abbrev left : ℕ
  left = bx * block_width q

  -- a row of the block ends in its row of the plane
  row_in : (i n m : ℕ) → i < m → left + n ≤ plane_width q → left + i * plane_width q + n ≤ m * plane_width q
  row_in i n m hi hn =
      let k : i + 1 ≤ m = omega arith in
      omega (arith, mul-le-mul_right (plane_width q) k)

  module _ (src : Plane) (g : Sampled q src) where
    plane-long : plane_height q * plane_width q ≡ length src.samples
    plane-long = mul_comm (plane_height q) (plane_width q) ∙ sym g.long

    -- in a plane
    pub plane-at : (i j : ℕ) → at src.samples (top * plane_width q + left) (plane_width q) i j ≡ at_place q src.samples (top + i) (left + j)
    unfolding at at_place
    plane-at i j = ap (λ (k : ℕ). get_or src.samples k 0) (omega arith)

    pub plane-within : (rows cols : ℕ) → rows ≤ block_height q → cols ≤ block_width q → Within src.samples (top * plane_width q + left) (plane_width q) rows cols (2 ^ q.depth)
    unfolding at
    plane-within rows cols hr hc = record {
      held = λ i hi.
          let k : top + i + 1 ≤ plane_height q = omega (arith, rows_in q h by bx hy hx) in
          omega (arith, mul-le-mul_right (plane_width q) k, plane-long, cols-in q h by bx hy hx);
      low = λ i j hi hj. g.low _;
    }

  -- in a block's rows
  module _ (rows : List ℕ) (len : length rows ≡ scratch_length q) where
    rows-long : block_height q * plane_width q ≡ length rows
    unfolding scratch_length
    rows-long = mul_comm (block_height q) (plane_width q) ∙ sym len

    pub rows_at : (i j : ℕ) → at rows left (plane_width q) i j ≡ row_sample q rows top (top + i) (left + j)
    unfolding at row_sample
    rows_at i j = let e : top + i - top ≡ i = omega arith in rw e (ap (λ (k : ℕ). get_or rows k 0) (omega arith))

    row_low : LowBlock q bx rows → (i j : ℕ) → i < block_height q → j < block_width q → row_sample q rows top (top + i) (left + j) < 2 ^ q.depth
    unfolding row_sample
    row_low low i j hi hj = let e : top + i - top ≡ i = omega arith in rw e (low.each i j hi hj)

    pub rows-within : LowBlock q bx rows → (n m : ℕ) → n ≤ block_height q → m ≤ block_width q → Within rows left (plane_width q) n m (2 ^ q.depth)
    rows-within low n m hn hm = record {
      held = λ i hi. omega (arith, row_in i m (block_height q) (omega arith) (omega (arith, cols-in q h by bx hy hx)), rows-long);
      low = λ i j hi hj. rw (rows_at i j) (row_low low i j (omega arith) (omega arith));
    }

  -- the plane's own rows of the block
  module _ (src : Plane) (g : Sampled q src) (n : ℕ) (len : n ≡ scratch_length q) where
    own-long : block_height q * plane_width q ≡ n
    unfolding scratch_length
    own-long = mul_comm (block_height q) (plane_width q) ∙ sym len

    pub rows-room : top * plane_width q + n ≤ length src.samples
    rows-room = omega (arith, mul-le-mul_right (plane_width q) (rows_in q h by bx hy hx), plane-long src g, own-long)

    abbrev own : List ℕ
    own = take n (drop (top * plane_width q) src.samples)

    pub own_rows : length own ≡ n
    own_rows = length-take-le n (drop (top * plane_width q) src.samples) (omega (arith, rows-room, length-drop (top * plane_width q) src.samples))

    own_at : (i j : ℕ) → i < block_height q → j < block_width q → get_or own (i * plane_width q + (left + j)) 0 ≡ at_place q src.samples (top + i) (left + j)
    unfolding at_place
    own_at i j hi hj =
        let b : left + i * plane_width q + (j + 1) ≤ block_height q * plane_width q = row_in i (j + 1) (block_height q) hi (omega (arith, cols-in q h by bx hy hx)) in
        get_or-take n (drop (top * plane_width q) src.samples) (i * plane_width q + (left + j)) 0 (omega (arith, b, own-long))
        ∙ get_or-drop (top * plane_width q) src.samples (i * plane_width q + (left + j)) 0
        ∙ ap (λ (k : ℕ). get_or src.samples k 0) (omega arith)

    pub own-is : (i j : ℕ) → i < block_height q → j < block_width q → row_sample q own top (top + i) (left + j) ≡ at_place q src.samples (top + i) (left + j)
    unfolding row_sample
    own-is i j hi hj = let e : top + i - top ≡ i = omega arith in rw e (own_at i j hi hj)

    pub own-low : LowBlock q bx own
    own-low = record { each = λ i j hi hj. rw (own_at i j hi hj) (unfold at_place in g.low _) }

-- The rows of a block as the code cuts them.
use Rattle.std.specs.Prelude.{◌≡◌, List, ℕ, ◌+◌, ◌-◌, ◌*◌, ◌^◌, ◌≤◌, ◌<◌, length, take, drop}
use Rattle.std.proofs.Common.{mul-le-mul, ◌∙◌, arith}
use Rattle.cdef_spec.specs.declared.Block.{Block}
use Rattle.cdef_spec.specs.declared.Visible.{Visible}
use Rattle.cdef_spec.specs.Document01.{Plane}
use Rattle.cdef_spec.specs.Picture.{Picture, plane_width, block_width, block_height, block_rows, block_cols}
use Rattle.cdef_spec.specs.FrameCalls.{scratch_length}
use Rattle.distance_sums.specs.Blocks.{Within}
use Rattle.frame_shape.specs.Frame.{block_of, visible_part}
use Rattle.frame_shape.specs.Shape.{Shaped, Sampled}
use Rattle.frame_shape.specs.ShapeLaws.{plane-wide, plane-high, rows_in, corner-is}
use Rattle.frame_part.specs.PartLaws.{part-rows, part-cols}
use Rattle.measure_plane.specs.Measure.{LowBlock}
use Rattle.measure_plane.specs.RowLaws.{rows-room, rows-within}

-- a block's rows reach as far as its visible part
pub rows_taken : (q : Picture) (h : Shaped q) (v : Visible) (by bx : ℕ) → by < block_rows q → bx < block_cols q → (rows : List ℕ) → length rows ≡ scratch_length q → LowBlock q bx rows
    → (n m depth from w : ℕ) → n ≡ (visible_part q v by bx).height → m ≡ (visible_part q v by bx).width → depth ≡ q.depth → from ≡ bx * block_width q → w ≡ plane_width q → Within rows from w n m (2 ^ depth)
rows_taken q h v by bx hy hx rows len low n m depth from w en em ed ef ew = rw (en, em, ed, ef, ew) (rows-within q h by bx hy hx rows len low _ _ (part-rows q v by bx) (part-cols q v by bx))

-- the plane's own rows, from the block's first on, in a list as long as the scratch
module _ (q : Picture) (h : Shaped q) (by bx : ℕ) (hy : by < block_rows q) (hx : bx < block_cols q) (b : Block) (eb : b ≡ block_of q by bx) (src : Plane) (g : Sampled q src) where
  own-begin : b.y * src.width ≡ by * block_height q * plane_width q
  own-begin = rw ((corner-is q by bx b eb).1, g.wide)

  pub own-start : b.y * src.width < 2 ^ 32
  own-start =
      let k : by * block_height q ≤ 4096 = omega (arith, rows_in q h by bx hy hx, plane-high q h) in
      omega (arith, own-begin, mul-le-mul k (plane-wide q h))

  module _ (n : ℕ) (len : n ≡ scratch_length q) where
    pub own-room : b.y * src.width + n ≤ length src.samples
    own-room = omega (arith, own-begin, rows-room q h by bx hy hx src g n len)

    pub own_taken : (l : List ℕ) → l ≡ take (b.y * src.width + n - b.y * src.width) (drop (b.y * src.width) src.samples) → l ≡ take n (drop (by * block_height q * plane_width q) src.samples)
    own_taken l e = let k : b.y * src.width + n - b.y * src.width ≡ n = omega arith in e ∙ rw (k, own-begin)

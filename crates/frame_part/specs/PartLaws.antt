-- The visible part of a block: where it lies in a plane.
use Rattle.std.specs.Prelude.{◌≡◌, ℕ, ◌+◌, ◌*◌, ◌^◌, ◌≤◌, ◌<◌, length}
use Rattle.std.proofs.Common.{arith}
use Rattle.std.proofs.Math.Nat.{mul-le-mul, mul-le-mul_right, mul_comm}
use Rattle.cdef_spec.specs.declared.Block.{Block}
use Rattle.cdef_spec.specs.declared.Visible.{Visible}
use Rattle.cdef_spec.specs.Document01.{Plane}
use Rattle.cdef_spec.specs.Picture.{Picture, plane_width, plane_height, block_width, block_height, block_rows, block_cols}
use Rattle.distance_sums.specs.Blocks.{at, Within}
use Rattle.frame_shape.specs.Frame.{visible_part}
use Rattle.frame_shape.specs.Shape.{Shaped, Sampled}
use Rattle.frame_shape.specs.ShapeLaws.{plane-wide, plane-high, block-wide, block-high, cols-in, rows_in}

module _ (q : Picture) (v : Visible) (by bx : ℕ) where
  -- it is no larger than the block
  pub part-rows : (visible_part q v by bx).height ≤ block_height q
  unfolding visible_part
  part-rows = omega arith

  pub part-cols : (visible_part q v by bx).width ≤ block_width q
  unfolding visible_part
  part-cols = omega arith

  module _ (h : Shaped q) (hy : by < block_rows q) (hx : bx < block_cols q) where
    pub part-sides : ((visible_part q v by bx).height ≤ 8) × ((visible_part q v by bx).width ≤ 8)
    part-sides = (omega (arith, part-rows, (block-high q h).1), omega (arith, part-cols, (block-wide q h).1))

    part_in : (o : Plane) → Sampled q o → Within o.samples ((visible_part q v by bx).y * plane_width q + (visible_part q v by bx).x) (plane_width q) (visible_part q v by bx).height (visible_part q v by bx).width (2 ^ q.depth)
    unfolding visible_part at
    part_in o g = record {
      held = λ i hi.
          let r : by * block_height q + i + 1 ≤ plane_height q = omega (arith, rows_in q h by bx hy hx) in
          let full : length o.samples ≡ plane_width q * plane_height q = g.long in
          omega (arith, full, mul_comm (plane_width q) (plane_height q), mul-le-mul_right (plane_width q) r, cols-in q h by bx hy hx);
      low = λ i j hi hj. g.low _;
    }

    pub part_held : (o : Plane) → Sampled q o → (p : Block) (w : ℕ) → p ≡ visible_part q v by bx → w ≡ plane_width q → Within o.samples (p.y * w + p.x) w p.height p.width (2 ^ q.depth)
    part_held o g p w ep ew = rw (ep, ew) (part_in o g)

    -- where it begins
    corner-low : (visible_part q v by bx).y * plane_width q + (visible_part q v by bx).x ≤ 2 ^ 25
    unfolding visible_part
    corner-low =
        let y : by * block_height q ≤ 4096 = omega (arith, rows_in q h by bx hy hx, plane-high q h) in
        omega (arith, mul-le-mul y (plane-wide q h), cols-in q h by bx hy hx, plane-wide q h)

    pub begin-low : (p : Block) (w : ℕ) → p ≡ visible_part q v by bx → w ≡ plane_width q → p.y * w + p.x ≤ 2 ^ 25
    begin-low p w ep ew = rw (ep, ew) corner-low

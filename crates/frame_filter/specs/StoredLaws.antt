-- Filtering a block of a picture: the filter accepts its rows, and stores what Picture says.
use Rattle.std.specs.Prelude.{◌≡◌, List, ℕ, ◌+◌, ◌-◌, ◌*◌, ◌≤◌, ◌<◌, min}
use Rattle.std.proofs.Common.{◌∙◌, arith}
use Rattle.cdef_spec.specs.declared.Block.{Block}
use Rattle.cdef_spec.specs.declared.FilterParams.{FilterParams}
use Rattle.cdef_spec.specs.declared.SignalledDamping.{SignalledDamping}
use Rattle.cdef_spec.specs.declared.UnitPair.{UnitPair}
use Rattle.cdef_spec.specs.Document01.{Plane, filtered}
use Rattle.cdef_spec.specs.Picture.{Picture, block_width, block_height, block_rows, block_cols, plane_width, plane_height, block_at, params_for, filtered_by}
use Rattle.cdef_spec.specs.LoopForm.{put_block}
use Rattle.frame_shape.specs.Frame.{block_of}
use Rattle.frame_shape.specs.Shape.{Shaped, Sampled}
use Rattle.frame_shape.specs.ShapeLaws.{cols-in, rows_in}
use Rattle.frame_shape.specs.SampledLaws.{plane-is}
use Rattle.frame_filter.specs.Stored.{block_stored}

module _ (q : Picture) (h : Shaped q) (by bx : ℕ) (hy : by < block_rows q) (hx : bx < block_cols q) where
  whole-cols : min (block_width q) (plane_width q - bx * block_width q) ≡ block_width q
  whole-cols = omega (arith, cols-in q h by bx hy hx)

  whole-rows : min (block_height q) (plane_height q - by * block_height q) ≡ block_height q
  whole-rows = omega (arith, rows_in q h by bx hy hx)

  module _ (p : Plane) (g : Sampled q p) (b : Block) (eb : b ≡ block_of q by bx) (y0 : ℕ) where
    pub top-in : y0 ≤ by * block_height q → y0 ≤ b.y
    unfolding block_of
    top-in k = rw eb k

    pub room : (n : ℕ) → (by * block_height q - y0 + block_height q) * plane_width q ≤ n → (b.y - y0 + min b.height (p.height - b.y)) * p.width ≤ n
    unfolding block_of
    room n k = rw (eb, g.wide, g.high, whole-rows) k

    -- what the filter stores
    pub stored-is : (d : SignalledDamping) (pair : UnitPair) (l last : List ℕ) (r : FilterParams) → r ≡ params_for q.kind q.depth q.dirs d pair (block_at q by bx)
        → last ≡ put_block l p.width (λ i j. filtered p r (y0 + i) j) (b.y - y0) b.x (min b.width (p.width - b.x)) (min b.height (p.height - b.y)) → last ≡ block_stored q d p.samples pair by bx y0 l
    unfolding block_stored filtered_by block_of
    stored-is d pair l last r er e = e ∙ rw (eb, plane-is q h p g, whole-cols, whole-rows, er)

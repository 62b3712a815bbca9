-- Laws of a checked picture's planes, and of the lists of its blocks.
use Rattle.std.specs.Prelude.{◌≡◌, true, ℕ, ◌≤◌, ◌<◌, get_or}
use Rattle.std.proofs.Common.{arith, pow_mono, eqb-true}
use Rattle.cdef_spec.specs.declared.Block.{Block}
use Rattle.cdef_spec.specs.declared.Visible.{Visible}
use Rattle.cdef_spec.specs.Document01.{Plane}
use Rattle.cdef_spec.specs.Picture.{PlaneKind, luma, chroma, Picture, plane_of, block_rows, block_cols}
use Rattle.cdef_spec.specs.Questions.{variances_listed}
use Rattle.arith_sample.specs.Bounds.{Marked}
use Rattle.arith_sample.specs.Upto.{upto}
use Rattle.filter_window.specs.Window.{window_at}
use Rattle.filter_window.specs.Spans.{InPlane}
use Rattle.filter_window.specs.WindowLaws.{window-marked}
use Rattle.frame_shape.specs.Frame.{block_of}
use Rattle.frame_shape.specs.Shape.{Shaped, Listed, Sampled, Seen, HasVariance, HasParams, blocks}
use Rattle.frame_shape.specs.ShapeLaws.{luma-sides, plane-wide, plane-high, block-wide, block-high, cols-in, rows_in}

-- a block of the picture has its parameters
module _ (q : Picture) (h : Listed q) (b : ℕ) (n : b < blocks q) where
  varies : (k : PlaneKind) → variances_listed k (blocks q) ≡ true → HasVariance k b
  unfolding variances_listed
  varies (luma vars) e = omega (arith, eqb-true _ _ e)
  varies (chroma sx sy) e = tt

  pub has-variance : HasVariance q.kind b
  has-variance = varies q.kind h.vars-long

  pub has-params : HasParams q b
  has-params = record { here = omega (arith, h.dirs-long); low = h.dirs-low b; varies = has-variance }

-- a visible size
pub seen-low : (q : Picture) → Shaped q → (v : Visible) → Seen q v → (v.width ≤ 4096) × (v.height ≤ 4096)
seen-low q h v s = let l = luma-sides q h in (omega (arith, s.wide), omega (arith, s.high))

module _ (q : Picture) (h : Shaped q) (p : Plane) (g : Sampled q p) where
  -- the plane is the picture's
  pub plane-is : p ≡ plane_of q p.samples
  plane-is = rw (g.wide, g.high)

  -- its samples are of at most 12 bits, and at depth 8 bytes
  pub sample-low : (k : ℕ) → get_or p.samples k 0 < 4096
  sample-low k = omega (arith, g.low k, pow_mono {i = q.depth} {j = 12} h.flat)

  pub sample-byte : q.depth ≡ 8 → (k : ℕ) → get_or p.samples k 0 < 256
  sample-byte e k = rw e at (g.low k)

  pub window-low : (b : Block) → Marked (upto (window_at p b) 144)
  window-low b = window-marked p sample-low b

  -- a block lies in it, as the window and the filter require
  pub block_in : (by bx : ℕ) → by < block_rows q → bx < block_cols q → InPlane p.samples p.width p.height (block_of q by bx)
  unfolding block_of
  block_in by bx hy hx = record {
    full = rw (g.wide, g.high) g.long;
    wide = rw g.wide (plane-wide q h);
    high = rw g.high (plane-high q h);
    x-in = rw g.wide (omega (arith, cols-in q h by bx hy hx, (block-wide q h).0));
    y-in = rw g.high (omega (arith, rows_in q h by bx hy hx, (block-high q h).0));
    bw = (block-wide q h).1;
    bh = (block-high q h).1;
  }

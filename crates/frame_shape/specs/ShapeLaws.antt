-- Laws of the geometry of a picture that passed the checks.
use Rattle.std.specs.Prelude.{◌≡◌, refl, true, ◌&&◌, List, ◌⊎◌, ℕ, zero, suc, ◌+◌, ◌-◌, ◌*◌, ◌/◌, ◌%◌, ◌^◌, ◌≤◌, ◌<◌, min, leb, eqb, length}
use Rattle.std.proofs.Common.{ap, inl, inr, div-le_self, arith, ltb-true, leb-true, eqb-true}
use Rattle.std.proofs.Math.Nat.{mul-le-mul, mul-le-mul_right}
use Rattle.std.proofs.Math.Arith.{digits_lt}
use Rattle.cdef_spec.specs.declared.Block.{Block}
use Rattle.cdef_spec.specs.declared.Visible.{Visible}
use Rattle.cdef_spec.specs.Words.{◌>>◌}
use Rattle.cdef_spec.specs.WordsLaws.{and_both}
use Rattle.cdef_spec.specs.Picture.{PlaneKind, luma, chroma, Picture, sub_x, sub_y, plane_width, plane_height, block_width, block_height, block_rows, block_cols, unit_rows, unit_cols, units, block_at, visible_rows, visible_cols}
use Rattle.cdef_spec.specs.Questions.{side_taken, luma_side_taken, flags_taken, variances_listed}
use Rattle.cdef_spec.specs.GeometryLaws.{Tiled, tiled, sides-on}
use Rattle.frame_shape.specs.Frame.{block_of, visible_part}
use Rattle.frame_shape.specs.Shape.{Shaped, Listed, blocks}

-- a luma side
pub side-facts : (n : ℕ) → luma_side_taken n ≡ true → (1 ≤ n) × (n ≤ 4096) × (n % 8 ≡ 0)
unfolding luma_side_taken side_taken
side-facts n e =
    let b = and_both (leb 1 n && leb n 4096) (eqb (n % 8) 0) e in
    let s = and_both (leb 1 n) (leb n 4096) b.0 in
    (leb-true 1 n s.0, leb-true n 4096 s.1, eqb-true (n % 8) 0 b.1)

-- subsampling flags are 0 or 1
pub flags-low : (k : PlaneKind) → flags_taken k ≡ true → (sub_x k < 2) × (sub_y k < 2)
unfolding flags_taken sub_x sub_y
flags-low (luma vars) e = (omega arith, omega arith)
flags-low (chroma sx sy) e = let b = and_both _ _ e in (ltb-true sx 2 b.0, ltb-true sy 2 b.1)

-- a side subsampled by a flag, rounded up
pub rounded : (n s : ℕ) → s < 2 → (n + s) / 2 ^ s ≡ (n + (2 ^ s - 1)) >> s
rounded n zero h = omega arith
rounded n (suc zero) h = omega arith
rounded n (suc (suc s)) h = absurd (omega arith)

-- a count of 64s, rounded up
pub ceil_is : (n k : ℕ) → k ≡ n / 64 + min 1 (n % 64) → k ≡ (n + 63) / 64
ceil_is n k e = omega arith

four-or-eight : (s : ℕ) → s < 2 → (8 / 2 ^ s ≡ 4) ⊎ (8 / 2 ^ s ≡ 8)
four-or-eight zero h = inr refl
four-or-eight (suc zero) h = inl refl
four-or-eight (suc (suc s)) h = absurd (omega arith)

module _ (q : Picture) (h : Shaped q) where
  pub luma-sides : (q.width ≤ 4096) × (q.height ≤ 4096)
  luma-sides = ((side-facts q.width h.wide).1, (side-facts q.height h.high).1)

  pub tiles : Tiled q
  tiles = tiled q h.wide h.high h.flags

  -- the plane's sides are at most 4,096, the block's at most 8 and not 0
  pub plane-wide : plane_width q ≤ 4096
  unfolding plane_width
  plane-wide = omega (arith, div-le_self q.width (2 ^ sub_x q.kind), luma-sides.0)

  pub plane-high : plane_height q ≤ 4096
  unfolding plane_height
  plane-high = omega (arith, div-le_self q.height (2 ^ sub_y q.kind), luma-sides.1)

  pub block-wide : (0 < block_width q) × (block_width q ≤ 8)
  unfolding block_width
  block-wide = ((sides-on q h.flags).0, div-le_self 8 (2 ^ sub_x q.kind))

  pub block-high : (0 < block_height q) × (block_height q ≤ 8)
  unfolding block_height
  block-high = ((sides-on q h.flags).1, div-le_self 8 (2 ^ sub_y q.kind))

  -- they are 4 or 8
  pub block-sides : (by bx : ℕ) (b : Block) → b ≡ block_of q by bx → ((b.width ≡ 4) ⊎ (b.width ≡ 8)) × ((b.height ≡ 4) ⊎ (b.height ≡ 8))
  unfolding block_of block_width block_height
  block-sides by bx b e = rw e (four-or-eight (sub_x q.kind) (flags-low q.kind h.flags).0, four-or-eight (sub_y q.kind) (flags-low q.kind h.flags).1)

  -- the numbers of blocks and of units
  pub blocks-few : (block_rows q ≤ 512) × (block_cols q ≤ 512)
  blocks-few = (omega (arith, luma-sides.1), omega (arith, luma-sides.0))

  pub unit-sides : (unit_rows q ≤ 64) × (unit_cols q ≤ 64)
  unit-sides = (omega (arith, luma-sides.1), omega (arith, luma-sides.0))

  pub units-few : units q ≤ 4096
  unfolding units
  units-few = mul-le-mul unit-sides.0 unit-sides.1

  module _ (by bx : ℕ) (hy : by < block_rows q) (hx : bx < block_cols q) where
    -- the block lies in the plane whole
    pub cols-in : bx * block_width q + block_width q ≤ plane_width q
    cols-in = rw tiles.wide (omega (arith, mul-le-mul_right (block_width q) hx))

    pub rows_in : by * block_height q + block_height q ≤ plane_height q
    rows_in = rw tiles.high (omega (arith, mul-le-mul_right (block_height q) hy))

    -- its index, and the counts that loops run to
    pub number-low : block_at q by bx < blocks q
    number-low = digits_lt {q = by} {m = block_rows q} {r = bx} {c = block_cols q} hy hx

    pub number-few : block_at q by bx < 2 ^ 20
    number-few = omega (arith, number-low, mul-le-mul blocks-few.0 blocks-few.1)

    pub counts-low : (by ≤ 512) × (bx ≤ 512)
    counts-low = (omega (arith, blocks-few.0), omega (arith, blocks-few.1))

-- in luma, a variance per block
pub vars-long : (q : Picture) (h : Listed q) (vars : List ℕ) → q.kind ≡ luma vars → length vars ≡ blocks q
unfolding variances_listed
vars-long q h vars e = eqb-true _ _ (rw e at h.vars-long)

-- a block's corner, and its visible part as the code computes it
pub corner-is : (q : Picture) (by bx : ℕ) (b : Block) → b ≡ block_of q by bx → (b.x ≡ bx * block_width q) × (b.y ≡ by * block_height q) × (b.width ≡ block_width q) × (b.height ≡ block_height q)
unfolding block_of
corner-is q by bx b e = (ap (λ (z : Block). z.x) e, ap (λ (z : Block). z.y) e, ap (λ (z : Block). z.width) e, ap (λ (z : Block). z.height) e)

pub part-is : (q : Picture) (v : Visible) (by bx : ℕ) (b : Block) (rows cols : ℕ) → b ≡ block_of q by bx → rows ≡ visible_rows q v → cols ≡ visible_cols q v
    → record { x = b.x; y = b.y; width = min b.width (cols - b.x); height = min b.height (rows - b.y) } ≡ visible_part q v by bx
unfolding visible_part block_of
part-is q v by bx b rows cols e er ec = rw (er, ec, e)

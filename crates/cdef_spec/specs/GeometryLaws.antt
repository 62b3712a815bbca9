-- Laws of the geometry: blocks tile the plane, an index has a row and a column, a block has a unit.
use Rattle.std.specs.Prelude.{◌≡◌, true, ℕ, zero, suc, ◌+◌, ◌*◌, ◌/◌, ◌%◌, ◌<◌, eqb}
use Rattle.std.proofs.Common.{◌∙◌, mul_comm, zero-mul, mod-lt, div-lt_iff_lt-mul, arith, ltb-true, eqb-true, lit≤}
use Rattle.std.proofs.Math.Arith.{digits_lt, digits_div, digits_mod}
use Rattle.cdef_spec.specs.Words.{◌>>◌}
use Rattle.cdef_spec.specs.WordsLaws.{get_or-table, and_both}
use Rattle.cdef_spec.specs.Picture.{PlaneKind, luma, chroma, Picture, sub_x, sub_y, plane_width, plane_height, block_width, block_height, block_cols, block_rows, unit_cols, unit_rows, units, unit_at, at_place, plane_from}
use Rattle.cdef_spec.specs.Questions.{side_taken, luma_side_taken, flags_taken}

-- blocks tile the plane
pub record Tiled (q : Picture) : Type 0 where
  pub wide : plane_width q ≡ block_cols q * block_width q
  pub high : plane_height q ≡ block_rows q * block_height q

halved : (n s : ℕ) → s < 2 → n % 8 ≡ 0 → n >> s ≡ n / 8 * (8 >> s)
halved n zero h e = omega arith
halved n (suc zero) h e = omega arith
halved n (suc (suc s)) h e = absurd (omega arith)

flags-low : (k : PlaneKind) → flags_taken k ≡ true → (sub_x k < 2) × (sub_y k < 2)
unfolding flags_taken sub_x sub_y
flags-low (luma vars) e = (omega arith, omega arith)
flags-low (chroma sx sy) e = let b = and_both _ _ e in (ltb-true sx 2 b.0, ltb-true sy 2 b.1)

side-whole : (n : ℕ) → luma_side_taken n ≡ true → n % 8 ≡ 0
unfolding luma_side_taken
side-whole n e = eqb-true _ _ (and_both (side_taken n) (eqb (n % 8) 0) e).1

pub tiled : (q : Picture) → luma_side_taken q.width ≡ true → luma_side_taken q.height ≡ true → flags_taken q.kind ≡ true → Tiled q
unfolding plane_width plane_height block_width block_height
tiled q w h f = let l = flags-low q.kind f in record {
  wide = halved q.width (sub_x q.kind) l.0 (side-whole q.width w);
  high = halved q.height (sub_y q.kind) l.1 (side-whole q.height h);
}

-- the row and the column of an index
pub row_of : (w h k : ℕ) → k < w * h → (k / w < h) × (k % w < w)
row_of zero h k l = absurd (omega (arith, zero-mul h))
row_of (suc w) h k l = ((div-lt_iff_lt-mul {k = suc w} {x = k} {y = h} (omega arith)).1 (rw (mul_comm h (suc w)) l), mod-lt k (omega arith))

-- the sample at (r, c) of a plane given by a function
pub at-plane : (q : Picture) (f : ℕ → ℕ → ℕ) (r c : ℕ) → r < plane_height q → c < plane_width q → at_place q (plane_from q f) r c ≡ f r c
unfolding at_place plane_from
at-plane q f r c hr hc =
    get_or-table (plane_width q * plane_height q) _ 0 (r * plane_width q + c) (rw (mul_comm (plane_width q) (plane_height q)) (digits_lt {q = r} {m = plane_height q} {r = c} {c = plane_width q} hr hc))
    ∙ rw (digits_div r {m = plane_width q} {r = c} hc, digits_mod r {m = plane_width q} {r = c} hc)

pub unit-low : (q : Picture) (by bx : ℕ) → by < block_rows q → bx < block_cols q → unit_at q by bx < units q
unfolding unit_at units
unit-low q by bx hy hx = digits_lt {q = by / 8} {m = unit_rows q} {r = bx / 8} {c = unit_cols q} (omega arith) (omega arith)

-- the blocks' sides are not 0
pub sides-on : (q : Picture) → flags_taken q.kind ≡ true → (0 < block_width q) × (0 < block_height q)
unfolding block_width block_height
sides-on q f = let l = flags-low q.kind f in (on (sub_x q.kind) l.0, on (sub_y q.kind) l.1)
  where
    on : (s : ℕ) → s < 2 → 0 < 8 >> s
    on zero h = lit≤ tt
    on (suc zero) h = lit≤ tt
    on (suc (suc s)) h = absurd (omega arith)

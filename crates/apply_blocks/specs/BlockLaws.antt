-- Filtering a block of a picture: the filter accepts its pair's parameters, and stores what Picture says.
use Rattle.std.specs.Prelude.{◌≡◌, Bool, true, false, List, ℕ, ◌+◌, ◌-◌, ◌*◌, ◌≤◌, ◌<◌, eqb, get_or}
use Rattle.std.proofs.Common.{◌∙◌, arith, mul_comm}
use Rattle.std.proofs.Math.Bool.{and-false}
use Rattle.std.proofs.Math.Nat.{mul-le-mul_right}
use borrow.Author.Tests.{eq-eqb, ne_eqb}
use Rattle.cdef_spec.specs.declared.SignalledDamping.{SignalledDamping}
use Rattle.cdef_spec.specs.declared.UnitPair.{UnitPair}
use Rattle.cdef_spec.specs.Picture.{Picture, block_width, block_height, block_rows, plane_width, plane_height, block_at, unit_at, pair_at, is_off, written, filtered_by}
use Rattle.cdef_spec.proofs.PlaneLaws.{block_same}
use Rattle.frame_shape.specs.Shape.{Shaped}
use Rattle.frame_shape.specs.ShapeLaws.{tiles}
use Rattle.frame_filter.specs.Stored.{block_stored}
use Rattle.apply_blocks.specs.Blocks.{block_filtered, block_applied}

-- ---- the block (by, bx), in rows whose first is the plane's

module _ (q : Picture) (h : Shaped q) (by bx : ℕ) (hy : by < block_rows q) where
  -- a destination as long as the plane has room for it
  pub room : (n : ℕ) → n ≡ plane_width q * plane_height q → (by * block_height q - 0 + block_height q) * plane_width q ≤ n
  room n en =
      let k : by * block_height q - 0 + block_height q ≤ plane_height q = omega (arith, tall) in
      omega (arith, mul-le-mul_right (plane_width q) k, en, mul_comm (plane_width q) (plane_height q))
    where
      tall : by * block_height q + block_height q ≤ plane_height q
      tall = rw (tiles q h).high (omega (arith, mul-le-mul_right (block_height q) hy))

  pub filtered-is : (d : SignalledDamping) (snapshot : List ℕ) (pair : UnitPair) (l last : List ℕ) → last ≡ block_stored q d snapshot pair by bx 0 l → last ≡ block_filtered q d snapshot pair by bx l
  unfolding block_stored block_filtered
  filtered-is d snapshot pair l last e =
      let y : by * block_height q - 0 ≡ by * block_height q = omega arith in
      e
      ∙ rw y
      (block_same l (plane_width q) _ (filtered_by q d snapshot pair by bx) (by * block_height q) (bx * block_width q) (block_width q) (block_height q)
      (λ i j a c m n. let z : 0 + i ≡ i = omega arith in rw z))

-- ---- the tests of a block

module _ (q : Picture) (d : SignalledDamping) (snapshot : List ℕ) (ps : List UnitPair) (by bx : ℕ) (dst : List ℕ) where
  pub skipped : (get_or q.skip (block_at q by bx) 0 ≡ 0 → ⊥) → dst ≡ block_applied q d snapshot ps by bx dst
  unfolding block_applied written
  skipped h = rw (ne_eqb (get_or q.skip (block_at q by bx) 0) 0 h)

  -- its pair p, and t, whether p is 0, 0
  module _ (p : UnitPair) (t : Bool) (own : p ≡ pair_at ps (unit_at q by bx)) (et : t ≡ is_off p) where
    pub off : t ≡ true → dst ≡ block_applied q d snapshot ps by bx dst
    unfolding block_applied written
    off e = rw (← own, ← et, e, and-false (eqb (get_or q.skip (block_at q by bx) 0) 0))

    pub on : t ≡ false → get_or q.skip (block_at q by bx) 0 ≡ 0 → (last : List ℕ) → last ≡ block_filtered q d snapshot p by bx dst → last ≡ block_applied q d snapshot ps by bx dst
    unfolding block_applied written
    on e z last h = rw (← own, ← et, e, eq-eqb (get_or q.skip (block_at q by bx) 0) 0 z) h

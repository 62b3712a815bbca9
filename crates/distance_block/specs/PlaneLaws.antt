-- From blocks to planes: the block at a corner, cropped to the plane, and its distances (RULES, Distance).
use Rattle.std.specs.Prelude.{◌≡◌, refl, Bool, true, false, ◌&&◌, ◌⊎◌, List, leb, get_or, length}
use Rattle.std.proofs.Common.{ap, ◌∙◌, inl, inr, lt_of_lt_of_le, mul_comm, mul-le-mul_right, pow_mono}
use Prim.Native.Nat.{ℕ, ◌+◌, ◌-◌, ◌*◌, ◌^◌, ◌≤◌, ◌<◌, min}
use native.Mathlib.Omega.{arith}
use borrow.Author.Tests.{ltb-true, le-leb, lt-leb}
use Rattle.std.proofs.Math.Arith.{digits_lt}
use Rattle.cdef_spec.specs.WordsLaws.{every-at}
use Rattle.cdef_spec.specs.Document01.{Plane}
use Rattle.cdef_spec.specs.declared.full.FullPlane.{FullPlane}
use Rattle.cdef_spec.specs.Questions.{sample_taken, looked_at, cut_taken}
use Rattle.cdef_spec.specs.Lent.{plane_in_full}
use Rattle.cdef_spec.specs.Words.{sum}
use Rattle.cdef_spec.specs.Distance.{squared_difference, squares, constants_of, weighted_distance}
use Rattle.cdef_spec.specs.BlockCalls.{in_plane, plane_squares, plane_distance}
use Rattle.arith_root.specs.NewtonLaws.{below_or_not}
use Rattle.distance_sums.specs.Blocks.{at, cell, block_of, Within, weighted_by}
use Rattle.distance_sums.specs.BlockLaws.{block-cell, block-below, squares-64, squares-same, squares-high}
use Rattle.distance_block.specs.WeightedLaws.{weighted-same, weighted-64-low}

abbrev pub sized : List ℕ → ℕ → ℕ → Plane
sized s w h = record { samples = s; width = w; height = h }

-- the other samples, with the plane's sides
unfoldable pub beside : FullPlane → List ℕ → Plane
beside p t = sized t p.width p.height

pub place-low : (w h r c : ℕ) → r < h → c < w → r * w + c < w * h
place-low w h r c hr hc = rw (mul_comm w h) (digits_lt {q = r} {m = h} {r = c} {c = w} hr hc)

-- a part of a row lies in the plane
pub row-held : (w h n y x i cols : ℕ) → n ≡ w * h → y + i < h → x + cols ≤ w → y * w + x + i * w + cols ≤ n
row-held w h n y x i cols e hi hx =
    let a : y + i + 1 ≤ h = omega arith in
    omega (arith, mul-le-mul_right w a, mul_comm w h)

pub at-plane : (s : List ℕ) (w h y x i j : ℕ) → at s (y * w + x) w i j ≡ in_plane (sized s w h) y x i j
unfolding at
at-plane s w h y x i j = ap (λ (k : ℕ). get_or s k 0) (omega arith)

module _ (s : List ℕ) (w h depth y x : ℕ) (full : length s ≡ w * h) (hx : x < w) (hy : y < h) (cut : cut_taken (sized s w h) depth y x ≡ true) where
  looked : (i j : ℕ) → i < min 8 (h - y) → j < min 8 (w - x) → get_or s ((y + i) * w + (x + j)) 0 < 2 ^ depth
  unfolding cut_taken looked_at sample_taken
  looked i j hi hj = ltb-true _ (2 ^ depth) (every-at _ _ (every-at _ _ cut i (omega arith)) j (omega arith))

  -- the block cropped to the plane
  pub cut-within : Within s (y * w + x) w (min 8 (h - y)) (min 8 (w - x)) (2 ^ depth)
  cut-within = record {
    held = λ i hi. row-held w h (length s) y x i (min 8 (w - x)) full (omega arith) (omega arith);
    low = λ i j hi hj. rw (at-plane s w h y x i j) (looked i j hi hj);
  }

pub lower : (s : List ℕ) (start pitch rows cols depth : ℕ) → depth ≤ 12 → Within s start pitch rows cols (2 ^ depth) → Within s start pitch rows cols 4096
lower s start pitch rows cols depth d w = record { held = w.held; low = λ i j hi hj. lt_of_lt_of_le (w.low i j hi hj) (pow_mono {i = depth} {j = 12} d) }

-- ---- plain squares

module _ (s t : List ℕ) (w h y x : ℕ) where
  pub squares-is : (r : ℕ) → r ≡ squares (min 8 (h - y)) (min 8 (w - x)) (at s (y * w + x) w) (at t (y * w + x) w) → r ≡ plane_squares (sized s w h) t y x
  unfolding plane_squares
  squares-is r e = e ∙ squares-same _ _ _ _ _ _ (λ i j hi hj. at-plane s w h y x i j) (λ i j hi hj. at-plane t w h y x i j)

  cells : (u : List ℕ) (i j : ℕ) → i < 8 → j < 8 → cell (block_of u (y * w + x) w) i j ≡ in_plane (sized u w h) y x i j
  cells u i j hi hj = block-cell u (y * w + x) w i j hi hj ∙ at-plane u w h y x i j

  -- by the 64 samples of a block wholly inside
  pub squares-inside : x + 8 ≤ w → y + 8 ≤ h → (r : ℕ) → r ≡ sum 64 (λ k. squared_difference (get_or (block_of s (y * w + x) w) k 0) (get_or (block_of t (y * w + x) w) k 0)) → r ≡ plane_squares (sized s w h) t y x
  unfolding plane_squares
  squares-inside hx hy r e =
      let a : min 8 (h - y) ≡ 8 = omega arith in
      let b : min 8 (w - x) ≡ 8 = omega arith in
      rw (a, b) (e ∙ squares-64 _ _ ∙ squares-same 8 8 _ _ _ _ (cells s) (cells t))

  pub squares-low : Within s (y * w + x) w (min 8 (h - y)) (min 8 (w - x)) 4096 → Within t (y * w + x) w (min 8 (h - y)) (min 8 (w - x)) 4096 → plane_squares (sized s w h) t y x ≤ 1073217600
  squares-low a b = rw (← squares-is _ refl) (squares-high _ _ _ _ (omega arith) (omega arith) (λ i j hi hj. (a.low i j hi hj, b.low i j hi hj)))

  -- ---- the weighted distance

  no-right : (t : Bool) → t && false ≡ false
  no-right true = refl
  no-right false = refl

  pub past-right : (depth : ℕ) → w < x + 8 → plane_distance (sized s w h) t depth y x ≡ plane_squares (sized s w h) t y x
  unfolding plane_distance
  past-right depth l = rw (lt-leb (x + 8) w l, no-right (leb (y + 8) h))

  pub past-bottom : (depth : ℕ) → h < y + 8 → plane_distance (sized s w h) t depth y x ≡ plane_squares (sized s w h) t y x
  unfolding plane_distance
  past-bottom depth l = rw (lt-leb (y + 8) h l)

  pub inside_is : (depth : ℕ) → x + 8 ≤ w → y + 8 ≤ h → weighted_by (constants_of depth) (cell (block_of s (y * w + x) w)) (cell (block_of t (y * w + x) w)) ≡ plane_distance (sized s w h) t depth y x
  unfolding plane_distance
  inside_is depth hx hy = rw (le-leb (x + 8) w hx, le-leb (y + 8) h hy) (weighted-same (constants_of depth) _ _ _ _ (cells s) (cells t) ∙ (unfold weighted_by weighted_distance in refl))

-- ---- every distance is far below 2 ^ 63

pub whole-within : (s : List ℕ) (w h m y x : ℕ) → x + 8 ≤ w → y + 8 ≤ h → Within s (y * w + x) w (min 8 (h - y)) (min 8 (w - x)) m → Within s (y * w + x) w 8 8 m
whole-within s w h m y x hx hy a =
    let r : min 8 (h - y) ≡ 8 = omega arith in
    let c : min 8 (w - x) ≡ 8 = omega arith in
    rw (r, c) at a

module _ (s t : List ℕ) (w h depth y x : ℕ) (fs : length s ≡ w * h) (ft : length t ≡ w * h) (hx : x < w) (hy : y < h) (lo : 8 ≤ depth) (hi : depth ≤ 12)
    (cs : cut_taken (sized s w h) depth y x ≡ true) (ct : cut_taken (sized t w h) depth y x ≡ true) where
  pub plain-low : plane_squares (sized s w h) t y x < 2 ^ 53
  plain-low = omega (arith, squares-low s t w h y x (lower _ _ _ _ _ depth hi (cut-within s w h depth y x fs hx hy cs)) (lower _ _ _ _ _ depth hi (cut-within t w h depth y x ft hx hy ct)))

  pub distance-low : plane_distance (sized s w h) t depth y x < 2 ^ 53
  distance-low = elim (below_or_not w (x + 8)) [
    | inl l ↦ rw (past-right s t w h y x depth l) plain-low
    | inr a ↦
        elim (below_or_not h (y + 8)) [
          | inl l ↦ rw (past-bottom s t w h y x depth l) plain-low
          | inr b ↦
              rw (← inside_is s t w h y x depth a b)
              (weighted-64-low (constants_of depth) depth _ _ (record { deep = lo; flat = hi; is = refl })
              (block-below s (y * w + x) w (2 ^ depth) (whole-within s w h (2 ^ depth) y x a b (cut-within s w h depth y x fs hx hy cs)))
              (block-below t (y * w + x) w (2 ^ depth) (whole-within t w h (2 ^ depth) y x a b (cut-within t w h depth y x ft hx hy ct))))
        ]
  ]

-- ---- a plane and another of its sides

module _ (p : FullPlane) (t : List ℕ) (depth y x : ℕ) (long : length t ≡ p.width * p.height) (hx : x < p.width) (hy : y < p.height) where
  pub own-within : cut_taken (plane_in_full p) depth y x ≡ true → Within p.samples.now (y * p.width + x) p.width (min 8 (p.height - y)) (min 8 (p.width - x)) (2 ^ depth)
  unfolding plane_in_full
  own-within c = cut-within p.samples.now p.width p.height depth y x p.full hx hy c

  pub other-within : cut_taken (beside p t) depth y x ≡ true → Within t (y * p.width + x) p.width (min 8 (p.height - y)) (min 8 (p.width - x)) (2 ^ depth)
  unfolding beside
  other-within c = cut-within t p.width p.height depth y x long hx hy c

  pub past-edge : (p.width < x + 8) ⊎ (p.height < y + 8) → plane_distance (plane_in_full p) t depth y x ≡ plane_squares (plane_in_full p) t y x
  unfolding plane_in_full
  past-edge (inl l) = past-right p.samples.now t p.width p.height y x depth l
  past-edge (inr l) = past-bottom p.samples.now t p.width p.height y x depth l

  module _ (ix : x + 8 ≤ p.width) (iy : y + 8 ≤ p.height) where
    pub own-whole : cut_taken (plane_in_full p) depth y x ≡ true → Within p.samples.now (y * p.width + x) p.width 8 8 (2 ^ depth)
    own-whole c = whole-within _ _ p.height _ _ _ ix iy (own-within c)

    pub other-whole : cut_taken (beside p t) depth y x ≡ true → Within t (y * p.width + x) p.width 8 8 (2 ^ depth)
    other-whole c = whole-within _ _ p.height _ _ _ ix iy (other-within c)

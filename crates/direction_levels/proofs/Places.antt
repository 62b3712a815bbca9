-- The indices of a block's samples in its plane, and what an iteration of the loops reads and stores.
use mathlib.Core.Path.{◌≡◌}
use mathlib.Core.Bool.{true}
use mathlib.Core.List.{List}
use Prim.Native.Nat.{ℕ, ◌+◌, ◌-◌, ◌*◌, ◌/◌, ◌%◌, ◌^◌, ◌≤◌, ◌<◌, min}
use native.Mathlib.Nat.{mul_comm, mul-le-mul}
use native.Mathlib.Omega.{arith}
use lib.Arith.{digits_lt}
use lib.IntN.{ℤ, pos, ◌-ℤ◌}
use lib.ListN.{length, get_or}
use mir.Syntax.{w16}
use mir.Val.{to_z, of_z}
use Rattle.cdef_spec.specs.declared.full.FullPlane.{FullPlane}
use Rattle.cdef_spec.specs.Document01.{Plane, edge_sample, direction_input}
use Rattle.cdef_spec.specs.Questions.{cut_taken}
use Rattle.arith_sample.proofs.Sums16.{back}
use Rattle.cdef_spec.specs.Lent.{plane_in_full}
use Rattle.direction_levels.specs.Levels.{BlockIn}
use Rattle.direction_levels.specs.LevelLaws.{less-128, shifted-low}

place-low : (w h r c : ℕ) → r < h → c < w → r * w + c < w * h
place-low w h r c hr hc = rw (mul_comm w h) (digits_lt {q = r} {m = h} {r = c} {c = w} hr hc)

plane-low : (w h : ℕ) → w ≤ 4096 → h ≤ 4096 → w * h ≤ 4096 * 4096
plane-low w h a b = mul-le-mul a b

-- a row and a column of a plane have a place among its samples, of which there are at most 4,096 * 4,096
pub place-in : (p : FullPlane) (r c : ℕ) → r < p.height → c < p.width → (r * p.width + c < length p.samples.now) × (length p.samples.now ≤ 4096 * 4096)
place-in p r c hr hc = (omega (arith, place-low p.width p.height r c hr hc, p.full), omega (arith, plane-low p.width p.height p.sides.0 p.sides.1, p.full))

-- what is known of a block's corner and depth
pub corner : (p : FullPlane) {depth y x : ℕ} → BlockIn (plane_in_full p) depth y x → (x < p.width) × (y < p.height) × (8 ≤ depth) × (depth ≤ 12)
unfolding plane_in_full
corner p q = (q.x-in, q.y-in, q.depth_low, q.depth-high)

abbrev sized : List ℕ → ℕ → ℕ → Plane
sized s w h = record { samples = s; width = w; height = h }

module _ (s : List ℕ) (w h d y x : ℕ) where
  -- a block wholly inside reads its own samples
  pub inside_is : x + 8 ≤ w → y + 8 ≤ h → (i j : ℕ) → i < 8 → j < 8 → get_or s ((y + i) * w + x + j) 0 ≡ edge_sample (sized s w h) (y + i) (x + j)
  unfolding edge_sample
  inside_is hx hy i j hi hj =
      let r : min (y + i) (h - 1) ≡ y + i = omega arith in
      let c : min (x + j) (w - 1) ≡ x + j = omega arith in
      let e : (y + i) * w + x + j ≡ (y + i) * w + (x + j) = omega arith in
      rw (r, c, e)

  -- any block reads the nearest sample of the plane
  pub edge-is : (i j k : ℕ) → k ≡ min (y + i) (h - 1) * w + min (x + j) (w - 1) → get_or s k 0 ≡ edge_sample (sized s w h) (y + i) (x + j)
  unfolding edge_sample
  edge-is i j k e = rw e

  module _ (hy : y < h) (hx : x < w) (cut : cut_taken (sized s w h) d y x ≡ true) (hd : 8 ≤ d) (i j : ℕ) (hi : i < 8) (hj : j < 8) (v : ℕ) (e : v ≡ edge_sample (sized s w h) (y + i) (x + j)) where
    pub read_low : v / 2 ^ (d - 8) < 256
    read_low = rw e (shifted-low s w h d y x hy hx cut hd i j hi hj)

    pub stored_is : {r : ℤ} → r ≡ pos (v / 2 ^ (d - 8)) -ℤ pos 128 → to_z w16 (of_z w16 r) ≡ direction_input (sized s w h) d y x ((i * 8 + j) / 8) ((i * 8 + j) % 8)
    unfolding direction_input
    stored_is {r} q =
        let a : (i * 8 + j) / 8 ≡ i = omega arith in
        let b : (i * 8 + j) % 8 ≡ j = omega arith in
        rw (q, back (pos (v / 2 ^ (d - 8)) -ℤ pos 128) (omega (arith, less-128 (v / 2 ^ (d - 8)) read_low)), a, b, e)

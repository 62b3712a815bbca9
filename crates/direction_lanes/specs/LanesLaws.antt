-- Three interleavings give the lanes; each sample is of magnitude at most 128.
use Rattle.std.specs.Prelude.{◌≡◌, List, ℕ, ◌+◌, ◌-◌, ◌*◌, ◌/◌, ◌%◌, ◌^◌, ◌≤◌, ◌<◌, min, ℤ, pos, ◌-ℤ◌, get_or, length}
use Rattle.std.proofs.Common.{sym, ap, ◌∙◌, add_assoc, div-lt_iff_lt-mul, arith, pow_pos, pow-add}
use Rattle.std.proofs.Math.IntN.{nat_abs}
use Rattle.cdef_spec.specs.Document01.{Plane, edge_sample, direction_input}
use Rattle.arith_sample.specs.Bounds.{Within}
use Rattle.arith_sample.specs.Upto.{upto, length-upto, get_or-upto, upto-ext, upto-all-of}
use Rattle.direction_levels.specs.LevelLaws.{less-128}
use Rattle.direction_lanes.specs.Lanes.{rows_of, from_at, interleaved_of, lanes_of}

-- ---- magnitudes

-- a sample that fits the depth, shifted
pub shifted-low : (v d : ℕ) → 8 ≤ d → v < 2 ^ d → v / 2 ^ (d - 8) < 256
shifted-low v d hd h =
    let e : d ≡ 8 + (d - 8) = omega arith in
    let f : 2 ^ d ≡ 256 * 2 ^ (d - 8) = ap (λ (n : ℕ). 2 ^ n) e ∙ pow-add 2 8 (d - 8) in
    (div-lt_iff_lt-mul {y = 256} (pow_pos (d - 8))).1 (rw (← f) h)

module _ (p : Plane) (depth y x : ℕ) (hd : 8 ≤ depth) (low : (k : ℕ) → get_or p.samples k 0 < 2 ^ depth) where
  input-small : (i j : ℕ) → nat_abs (direction_input p depth y x i j) ≤ 128
  unfolding direction_input edge_sample
  input-small i j = less-128 _ (shifted-low _ depth hd (low _))

  pub rows-within : Within (rows_of p depth y x) 128
  unfolding rows_of
  rows-within = record { all = upto-all-of (λ (z : ℤ). nat_abs z ≤ 128) _ 512 (pos 0) (λ k. input-small (k / 64) (k % 64)) (omega arith) }

pub lanes-within : (p : Plane) (depth y x : ℕ) → 8 ≤ depth → ((k : ℕ) → get_or p.samples k 0 < 2 ^ depth) → Within (lanes_of p depth y x) 128
unfolding lanes_of
lanes-within p depth y x hd low = record { all = upto-all-of (λ (z : ℤ). nat_abs z ≤ 128) _ 512 (pos 0) (λ k. input-small p depth y (x + k % 8 * 8) hd low (k / 64) (k / 8 % 8)) (omega arith) }

pub interleaved-within : (a : List ℤ) (row on half : ℕ) → Within a 128 → Within (interleaved_of a row on half) 128
unfolding interleaved_of
interleaved-within a row on half h = record { all = upto-all-of (λ (z : ℤ). nat_abs z ≤ 128) _ 512 (pos 0) (λ k. h.all (from_at row on half k)) (omega arith) }

-- ---- lengths

pub length-rows : (p : Plane) (depth y x : ℕ) → length (rows_of p depth y x) ≡ 512
unfolding rows_of
length-rows p depth y x = length-upto _ 512

pub length-lanes : (p : Plane) (depth y x : ℕ) → length (lanes_of p depth y x) ≡ 512
unfolding lanes_of
length-lanes p depth y x = length-upto _ 512

pub length-interleaved : (a : List ℤ) (row on half : ℕ) → length (interleaved_of a row on half) ≡ 512
unfolding interleaved_of
length-interleaved a row on half = length-upto _ 512

-- ---- the order

-- sample k of row i, read from the plane
pub row_at : (s : List ℕ) (w h depth y x i k : ℕ) → x + 64 ≤ w → y + 8 ≤ h → i < 8 → k < 64
    → pos (get_or s ((y + i) * w + x + k) 0 / 2 ^ (depth - 8)) -ℤ pos 128 ≡ direction_input (record { samples = s; width = w; height = h }) depth y x ((i * 64 + k) / 64) ((i * 64 + k) % 64)
unfolding direction_input edge_sample
row_at s w h depth y x i k hx hy hi hk =
    let a : (i * 64 + k) / 64 ≡ i = omega arith in
    let b : (i * 64 + k) % 64 ≡ k = omega arith in
    let r : min (y + i) (h - 1) ≡ y + i = omega arith in
    let c : min (x + k) (w - 1) ≡ x + k = omega arith in
    rw (a, b, r, c, add_assoc ((y + i) * w) x k)

-- entry b of pair j of run i of group m
pub from_at_is : (row on half m i j b : ℕ) → m < 4 → i < 8 → j < 8 → b < 2 → from_at row on half (m * 128 + i * 16 + 2 * j + b) ≡ m * row + i * on + j + b * half
unfolding from_at
from_at_is row on half m i j b hm hi hj hb =
    let e : (m * 128 + i * 16 + 2 * j + b) / 128 ≡ m = omega arith in
    let f : (m * 128 + i * 16 + 2 * j + b) / 16 % 8 ≡ i = omega arith in
    let g : (m * 128 + i * 16 + 2 * j + b) / 2 % 8 ≡ j = omega arith in
    let q : (m * 128 + i * 16 + 2 * j + b) % 2 ≡ b = omega arith in
    rw (e, f, g, q)

-- the halves interleaved
halves-is : (k : ℕ) → k < 512 → from_at 64 8 256 k ≡ k / 2 + k % 2 * 256
unfolding from_at
halves-is k h = omega arith

halves_in : (k : ℕ) → k < 512 → from_at 64 8 256 k < 512
halves_in k h = omega (arith, halves-is k h)

first-in : (k : ℕ) → k < 512 → from_at 8 64 32 k < 512
unfolding from_at
first-in k h = low (k / 128) (k / 16 % 8) (k / 2 % 8) (k % 2) (omega arith) (omega arith) (omega arith) (omega arith)
  where
    low : (m i j b : ℕ) → m < 4 → i < 8 → j < 8 → b < 2 → m * 8 + i * 64 + j + b * 32 < 512
    low m i j b hm hi hj hb = omega arith

-- three interleavings of an index with the digits i, j, t, v, u
thrice-digits : (i j t v u : ℕ) → i < 8 → j < 8 → t < 2 → v < 2 → u < 2
    → from_at 8 64 32 (from_at 64 8 256 (from_at 64 8 256 (i * 64 + j * 8 + t * 4 + v * 2 + u))) ≡ i * 64 + ((t * 4 + v * 2 + u) * 8 + j)
thrice-digits i j t v u hi hj ht hv hu =
    let d : (i * 64 + j * 8 + t * 4 + v * 2 + u) / 2 ≡ i * 32 + j * 4 + t * 2 + v = omega arith in
    let m : (i * 64 + j * 8 + t * 4 + v * 2 + u) % 2 ≡ u = omega arith in
    let e : from_at 64 8 256 (i * 64 + j * 8 + t * 4 + v * 2 + u) ≡ i * 32 + j * 4 + t * 2 + v + u * 256 = halves-is _ (omega arith) ∙ rw (d, m) in
    let d2 : (i * 32 + j * 4 + t * 2 + v + u * 256) / 2 ≡ i * 16 + j * 2 + t + u * 128 = omega arith in
    let m2 : (i * 32 + j * 4 + t * 2 + v + u * 256) % 2 ≡ v = omega arith in
    let g : from_at 64 8 256 (i * 32 + j * 4 + t * 2 + v + u * 256) ≡ (v * 2 + u) * 128 + i * 16 + 2 * j + t = halves-is _ (omega arith) ∙ rw (d2, m2) (omega arith) in
    rw (e, g, from_at_is 8 64 32 (v * 2 + u) i j t (omega arith) hi hj ht) (omega arith)

thrice : (k i j t v u : ℕ) → k ≡ i * 64 + j * 8 + t * 4 + v * 2 + u → i < 8 → j < 8 → t < 2 → v < 2 → u < 2
    → from_at 8 64 32 (from_at 64 8 256 (from_at 64 8 256 k)) ≡ i * 64 + ((t * 4 + v * 2 + u) * 8 + j)
thrice k i j t v u e hi hj ht hv hu = rw e (thrice-digits i j t v u hi hj ht hv hu)

-- an interleaving of listed values
module _ (f : ℕ → ℤ) (row on half : ℕ) (inside : (k : ℕ) → k < 512 → from_at row on half k < 512) where
  interleaved-upto : interleaved_of (upto f 512) row on half ≡ upto (λ k. f (from_at row on half k)) 512
  unfolding interleaved_of
  interleaved-upto = upto-ext _ _ 512 (λ k h. get_or-upto f 512 (from_at row on half k) (pos 0) (inside k h))

-- an index's digits
two_digits : (k : ℕ) → k / 2 % 2 * 2 + k % 2 ≡ k % 4
two_digits k = omega arith

low-digits : (k : ℕ) → k / 4 % 2 * 4 + k / 2 % 2 * 2 + k % 2 ≡ k % 8
low-digits k =
    let e : k / 4 % 2 * 4 + k % 4 ≡ k % 8 = omega arith in
    add_assoc (k / 4 % 2 * 4) (k / 2 % 2 * 2) (k % 2) ∙ rw (two_digits k) e

digits : (k : ℕ) → k / 64 * 64 + k / 8 % 8 * 8 + k % 8 ≡ k
digits k = omega arith

-- THE LANES are the rows, interleaved three times
pub lanes-are : (p : Plane) (depth y x : ℕ) → interleaved_of (interleaved_of (interleaved_of (rows_of p depth y x) 8 64 32) 64 8 256) 64 8 256 ≡ lanes_of p depth y x
unfolding rows_of lanes_of direction_input
lanes-are p depth y x =
    rw (interleaved-upto _ 8 64 32 first-in, interleaved-upto _ 64 8 256 halves_in, interleaved-upto _ 64 8 256 halves_in)
    (upto-ext _ _ 512 (λ k h. rw (place k h) (same (k / 64) (k % 8) (k / 8 % 8) (omega arith) (omega arith))))
  where
    place : (k : ℕ) → k < 512 → from_at 8 64 32 (from_at 64 8 256 (from_at 64 8 256 k)) ≡ k / 64 * 64 + (k % 8 * 8 + k / 8 % 8)
    place k h =
        thrice k (k / 64) (k / 8 % 8) (k / 4 % 2) (k / 2 % 2) (k % 2) (sym (digits k) ∙ rw (← low-digits k) (omega arith)) (omega arith) (omega arith) (omega arith) (omega arith) (omega arith)
        ∙ rw (low-digits k)

    same : (i l j : ℕ) → l < 8 → j < 8 → direction_input p depth y x ((i * 64 + (l * 8 + j)) / 64) ((i * 64 + (l * 8 + j)) % 64) ≡ direction_input p depth y (x + l * 8) i j
    same i l j hl hj =
        let a : (i * 64 + (l * 8 + j)) / 64 ≡ i = omega arith in
        let b : (i * 64 + (l * 8 + j)) % 64 ≡ l * 8 + j = omega arith in
        let e : x + (l * 8 + j) ≡ x + l * 8 + j = omega arith in
        rw (a, b, e)

-- Laws of blocks: the 64 samples of a block are its rows and columns, and sums of squared differences depend on these only.
use Rattle.std.specs.Prelude.{◌≡◌, List, ℕ, ◌+◌, ◌*◌, ◌/◌, ◌%◌, ◌^◌, ◌≤◌, ◌<◌, ℤ, ◌-ℤ◌, get_or}
use Rattle.std.proofs.Common.{◌∙◌, lt_of_lt_of_le, pow_mono}
use native.Mathlib.Omega.{arith}
use Rattle.std.proofs.Math.IntN.{pos}
use Rattle.cdef_spec.specs.Words.{sum, sum2}
use Rattle.cdef_spec.specs.WordsLaws.{sum2-same}
use Rattle.cdef_spec.specs.Standard.{square}
use Rattle.cdef_spec.specs.Distance.{squared_difference, squares}
use Rattle.arith_sample.specs.Upto.{get_or-upto}
use Rattle.distance_sums.specs.SumLaws.{sum-none, sum_more, sum-high, sum_64, difference-square, difference-high}
use Rattle.distance_sums.specs.Blocks.{at, cell, block_of, differences_of, Below, Within}

-- ---- the 64 samples of a block

module _ (s : List ℕ) (start pitch : ℕ) where
  pub block_at : (k : ℕ) → k < 64 → get_or (block_of s start pitch) k 0 ≡ at s start pitch (k / 8) (k % 8)
  unfolding block_of
  block_at k h = get_or-upto (λ k. at s start pitch (k / 8) (k % 8)) 64 k 0 h

  pub block-cell : (i j : ℕ) → i < 8 → j < 8 → cell (block_of s start pitch) i j ≡ at s start pitch i j
  unfolding cell
  block-cell i j hi hj =
      let a : (i * 8 + j) / 8 ≡ i = omega arith in
      let b : (i * 8 + j) % 8 ≡ j = omega arith in
      block_at (i * 8 + j) (omega arith) ∙ rw (a, b)

  pub block-below : (m : ℕ) → Within s start pitch 8 8 m → Below (block_of s start pitch) m
  block-below m w = record { each = λ k h. rw (block_at k h) (w.low (k / 8) (k % 8) (omega arith) (omega arith)) }

  -- what an iteration stores
  pub stored : (i j : ℕ) → j < 8 → get_or s (start + i * pitch + j) 0 ≡ at s start pitch ((i * 8 + j) / 8) ((i * 8 + j) % 8)
  unfolding at
  stored i j hj =
      let a : (i * 8 + j) / 8 ≡ i = omega arith in
      let b : (i * 8 + j) % 8 ≡ j = omega arith in
      rw (a, b)

-- ---- squares depend on rows and columns only

pub squares-same : (rows cols : ℕ) (o p d e : ℕ → ℕ → ℕ) → ((i j : ℕ) → i < rows → j < cols → o i j ≡ p i j) → ((i j : ℕ) → i < rows → j < cols → d i j ≡ e i j) → squares rows cols o d ≡ squares rows cols p e
unfolding squares
squares-same rows cols o p d e h g = sum2-same rows cols _ _ (λ i j hi hj. rw (h i j hi hj, g i j hi hj))

-- ---- of 64 samples

module _ (a b : List ℕ) where
  abbrev A : ℕ → ℕ
  A k = get_or a k 0

  abbrev B : ℕ → ℕ
  B k = get_or b k 0

  pub squares-64 : sum 64 (λ k. squared_difference (A k) (B k)) ≡ squares 8 8 (cell a) (cell b)
  unfolding squares cell
  squares-64 = sum_64 (λ k. squared_difference (A k) (B k))

  -- a difference squared, by its place
  pub square-at : (v : List ℤ) (k : ℕ) → v ≡ differences_of a b → k < 64 → square (get_or v k (pos 0)) ≡ squared_difference (A k) (B k)
  unfolding differences_of
  square-at v k e h = rw (e, get_or-upto (λ n. pos (A n) -ℤ pos (B n)) 64 k (pos 0) h) (difference-square (A k) (B k))

  pub square-high : (k : ℕ) → Below a 4096 → Below b 4096 → k < 64 → squared_difference (A k) (B k) ≤ 16769025
  square-high k x y h = difference-high (A k) (B k) 4095 (omega (arith, x.each k h)) (omega (arith, y.each k h))

-- ---- squares row by row

module _ (o d : List ℕ) (os op ds dp cols : ℕ) where
  pub rows_none : 0 ≡ squares 0 cols (at o os op) (at d ds dp)
  unfolding squares sum2
  rows_none = sum-none _

  pub rows_more : (i t r : ℕ) → t ≡ squares i cols (at o os op) (at d ds dp) → r ≡ sum cols (λ j. squared_difference (get_or o (os + i * op + j) 0) (get_or d (ds + i * dp + j) 0)) → t + r ≡ squares (i + 1) cols (at o os op) (at d ds dp)
  unfolding squares sum2 at
  rows_more i t r e f = rw (e, f) (sum_more (λ i. sum cols (λ j. squared_difference (get_or o (os + i * op + j) 0) (get_or d (ds + i * dp + j) 0))) i)

-- ---- bounds

pub below-4096 : (a : List ℕ) (depth : ℕ) → depth ≤ 12 → Below a (2 ^ depth) → Below a 4096
below-4096 a depth d b = record { each = λ k h. lt_of_lt_of_le (b.each k h) (pow_mono {i = depth} {j = 12} d) }

pub row-high : (cols : ℕ) (f g : ℕ → ℕ) → cols ≤ 8 → ((j : ℕ) → j < cols → (f j < 4096) × (g j < 4096)) → sum cols (λ j. squared_difference (f j) (g j)) ≤ 134152200
row-high cols f g h l =
    let s : sum cols (λ j. squared_difference (f j) (g j)) ≤ cols * 16769025 = sum-high cols 16769025 _ (λ j k. difference-high (f j) (g j) 4095 (omega (arith, (l j k).0)) (omega (arith, (l j k).1))) in
    omega arith

pub squares-high : (rows cols : ℕ) (o d : ℕ → ℕ → ℕ) → rows ≤ 8 → cols ≤ 8 → ((i j : ℕ) → i < rows → j < cols → (o i j < 4096) × (d i j < 4096)) → squares rows cols o d ≤ 1073217600
unfolding squares sum2
squares-high rows cols o d h k l =
    let s : sum rows (λ i. sum cols (λ j. squared_difference (o i j) (d i j))) ≤ rows * 134152200 = sum-high rows 134152200 _ (λ i hi. row-high cols (o i) (d i) k (λ j hj. l i j hi hj)) in
    omega arith

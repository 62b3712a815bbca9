-- Blocks in the code's form: samples of a list from a start, with a row pitch, and 64 samples on their own. Definitions only.
use Rattle.std.specs.Prelude.{List, ℕ, ◌+◌, ◌*◌, ◌/◌, ◌%◌, ◌≤◌, ◌<◌, ◌≡◌, ℤ, pos, ◌-ℤ◌, get_or, length}
use Rattle.cdef_spec.specs.Words.{sum}
use Rattle.cdef_spec.specs.declared.DistanceConstants.{DistanceConstants}
use Rattle.cdef_spec.specs.Distance.{spread, squares, weighted}
use Rattle.arith_sample.specs.Upto.{upto}

-- row i and column j of the block at `start`
unfoldable pub at : List ℕ → ℕ → ℕ → ℕ → ℕ → ℕ
at s start pitch i j = get_or s (start + i * pitch + j) 0

-- row i and column j of 64 samples
unfoldable pub cell : List ℕ → ℕ → ℕ → ℕ
cell a i j = get_or a (i * 8 + j) 0

-- the 64 samples of an 8 by 8 block
unfoldable pub block_of : List ℕ → ℕ → ℕ → List ℕ
unfolding at
block_of s start pitch = upto (λ k. at s start pitch (k / 8) (k % 8)) 64

-- 64 samples below m
pub record Below (a : List ℕ) (m : ℕ) : Type 0 where
  pub each : (k : ℕ) → k < 64 → get_or a k 0 < m

-- a block that lies in the list, with samples below m
pub record Within (s : List ℕ) (start pitch rows cols m : ℕ) : Type 0 where
  pub held : (i : ℕ) → i < rows → start + i * pitch + cols ≤ length s
  pub low : (i j : ℕ) → i < rows → j < cols → at s start pitch i j < m

-- the weighted distance with given constants
unfoldable pub weighted_by : DistanceConstants → (ℕ → ℕ → ℕ) → (ℕ → ℕ → ℕ) → ℕ
weighted_by c o d = weighted c (spread o) (spread d) (squares 8 8 o d)

-- the sum of column k over n rows of eight
unfoldable pub column_sum : List ℕ → ℕ → ℕ → ℕ
column_sum a k n = sum n (λ i. get_or a (i * 8 + k) 0)

-- eight sums of columns over n rows, the first j of them with a row more
pub record Columns (a col : List ℕ) (n j : ℕ) : Type 0 where
  pub long : length col ≡ 8
  pub past : (k : ℕ) → k < j → get_or col k 0 ≡ column_sum a k (n + 1)
  pub left : (k : ℕ) → j ≤ k → k < 8 → get_or col k 0 ≡ column_sum a k n

-- 64 samples less 64 others
unfoldable pub differences_of : List ℕ → List ℕ → List ℤ
differences_of a b = upto (λ k. pos (get_or a k 0) -ℤ pos (get_or b k 0)) 64

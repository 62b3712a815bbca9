-- The window of a block as strips. Definitions only.
use Rattle.std.specs.Prelude.{◌≡◌, List, ℕ, ◌+◌, ◌*◌, ◌≤◌, ◌<◌, get_or, length}

-- Five strips of n rows of w entries: entry j of row i of strip x is the window's entry in row i and column x + j. The entries after them are 0.
-- So a step of one column is n * w entries, one of a row is w, and the block's samples begin at (2 * n + 2) * w.
pub record Strips (win : List ℕ) (w n : ℕ) (s : List ℕ) : Type 0 where
  pub at : (x i j : ℕ) → x < 5 → i < n → j < w → get_or s ((x * n + i) * w + j) 0 ≡ get_or win (i * 12 + (x + j)) 0
  pub rest : (k : ℕ) → 5 * n * w ≤ k → get_or s k 0 ≡ 0
  pub long : length s ≡ 480

-- The first r rows of them, counted through all strips, and j entries of the next one.
pub record Filled (win : List ℕ) (w n r j : ℕ) (s : List ℕ) : Type 0 where
  pub at : (x i l : ℕ) → i < n → l < w → (x * n + i) * w + l < r * w + j → get_or s ((x * n + i) * w + l) 0 ≡ get_or win (i * 12 + (x + l)) 0
  pub rest : (k : ℕ) → r * w + j ≤ k → get_or s k 0 ≡ 0

-- The values of the direction process (samples shifted to 8 bits, less 128) of eight blocks side by side, in the orders that the code gives them. Definitions only.
use Rattle.std.specs.Prelude.{List, ℕ, ◌+◌, ◌*◌, ◌/◌, ◌%◌, ◌^◌, ◌≤◌, ◌<◌, ℤ, pos, get_or}
use Rattle.cdef_spec.specs.Document01.{Plane, direction_input}
use Rattle.arith_sample.specs.Upto.{upto}

-- eight whole blocks of a plane side by side, the first at row y and column x; depth 8 to 12, every sample of the plane below 2 ^ depth
pub record EightIn (p : Plane) (depth y x : ℕ) : Type 0 where
  pub x-in : x + 64 ≤ p.width
  pub y-in : y + 8 ≤ p.height
  pub depth_low : 8 ≤ depth
  pub depth-high : depth ≤ 12
  pub low : (k : ℕ) → get_or p.samples k 0 < 2 ^ depth

-- row by row: entry k is of row k / 64 and column k % 64
unfoldable pub rows_of : Plane → ℕ → ℕ → ℕ → List ℤ
rows_of p depth y x = upto (λ k. direction_input p depth y x (k / 64) (k % 64)) 512

-- an interleaving: of each 16 entries, 2 t and 2 t + 1 come from t and from `half` further on; groups of 16 start `on` apart, eight of these `row` apart.
-- Three of them lead from rows_of to lanes_of.
unfoldable pub from_at : ℕ → ℕ → ℕ → ℕ → ℕ
from_at row on half k = k / 128 * row + k / 16 % 8 * on + k / 2 % 8 + k % 2 * half

unfoldable pub interleaved_of : List ℤ → ℕ → ℕ → ℕ → List ℤ
interleaved_of a row on half = upto (λ k. get_or a (from_at row on half k) (pos 0)) 512

-- sample (i, j) of block l at 64 i + 8 j + l
unfoldable pub lanes_of : Plane → ℕ → ℕ → ℕ → List ℤ
lanes_of p depth y x = upto (λ k. direction_input p depth y (x + k % 8 * 8) (k / 64) (k / 8 % 8)) 512

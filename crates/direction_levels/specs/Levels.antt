-- The samples of a block, shifted and less 128, as the code stores them. Definitions only.
use Rattle.std.specs.Prelude.{◌≡◌, true, ℕ, ◌/◌, ◌%◌, ◌≤◌, ◌<◌, List, ℤ}
use Rattle.cdef_spec.specs.Document01.{Plane}
use Rattle.cdef_spec.specs.Questions.{cut_taken}
use Rattle.arith_sample.specs.Upto.{upto}

-- a block of a plane: its corner on the plane, depth 8 to 12, every sample of it that lies on the plane below 2 ^ depth
pub record BlockIn (p : Plane) (depth y x : ℕ) : Type 0 where
  pub x-in : x < p.width
  pub y-in : y < p.height
  pub depth_low : 8 ≤ depth
  pub depth-high : depth ≤ 12
  pub low : cut_taken p depth y x ≡ true

-- the 64 samples of a block, row by row
unfoldable pub block_of : (ℕ → ℕ → ℤ) → List ℤ
block_of x = upto (λ k. x (k / 8) (k % 8)) 64

-- The direction and the variance of block b of a plane with cols blocks per row of blocks, and how far the lists are filled. Definitions only.
use Rattle.std.specs.Prelude.{◌≡◌, List, ℕ, ◌*◌, ◌/◌, ◌%◌, ◌^◌, ◌≤◌, ◌<◌, get_or, length, take}
use Rattle.cdef_spec.specs.Document01.{Plane, block_direction, block_variance}
use Rattle.arith_sample.specs.Upto.{upto}

abbrev pub direction_at : Plane → ℕ → ℕ → ℕ → ℕ
direction_at p depth cols b = block_direction p depth (b / cols * 8) (b % cols * 8)

abbrev pub variance_at : Plane → ℕ → ℕ → ℕ → ℕ
variance_at p depth cols b = block_variance p depth (b / cols * 8) (b % cols * 8)

-- depth 8 to 12, every sample below 2 ^ depth, one entry per block in each list
pub record PassIn (p : Plane) (depth : ℕ) (dirs vars : List ℕ) : Type 0 where
  pub dirs-size : length dirs ≡ p.height / 8 * (p.width / 8)
  pub vars-size : length vars ≡ p.height / 8 * (p.width / 8)
  pub depth_low : 8 ≤ depth
  pub depth-high : depth ≤ 12
  pub low : (k : ℕ) → get_or p.samples k 0 < 2 ^ depth

-- the first n entries of the lists are those of the first n blocks
pub record Filled (p : Plane) (depth n : ℕ) (dirs vars : List ℕ) : Type 0 where
  pub dirs-are : take n dirs ≡ upto (direction_at p depth (p.width / 8)) n
  pub vars-are : take n vars ≡ upto (variance_at p depth (p.width / 8)) n

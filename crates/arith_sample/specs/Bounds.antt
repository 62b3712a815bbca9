-- Lists whose entries are bounded, as records, so that the list can be inferred. Definitions only.
use Rattle.std.specs.Prelude.{List, ◌⊎◌, ◌≡◌, ℕ, ◌≤◌, ◌<◌, get_or, ℤ, pos, nat_abs}

-- no sample above the mark
pub record Held (w : List ℕ) : Type 0 where
  pub all : (k : ℕ) → get_or w k 0 ≤ 16384

-- each a sample of at most 12 bits, or the mark
pub record Marked (l : List ℕ) : Type 0 where
  pub all : (k : ℕ) → (get_or l k 0 < 4096) ⊎ (get_or l k 0 ≡ 16384)

-- no sum of magnitude above m
pub record Within (l : List ℤ) (m : ℕ) : Type 0 where
  pub all : (k : ℕ) → nat_abs (get_or l k (pos 0)) ≤ m

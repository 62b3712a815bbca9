-- A block's samples row after row, and its distances from trial blocks. Definitions only.
use Rattle.std.specs.Prelude.{List, ℕ, ◌*◌, ◌/◌, ◌%◌}
use Rattle.cdef_spec.specs.Distance.{squares}
use Rattle.arith_sample.specs.Upto.{upto}
use Rattle.distance_sums.specs.Blocks.{at}

-- the samples of a block of `rows` by `cols` at `start`, with a row pitch
unfoldable pub rows_of : List ℕ → ℕ → ℕ → ℕ → ℕ → List ℕ
unfolding at
rows_of s start pitch rows cols = upto (λ k. at s start pitch (k / cols) (k % cols)) (rows * cols)

-- the plain squares between such a block of an original and trial block t, which lies at t * 64 and has cols samples a row
unfoldable pub packed_distances : List ℕ → ℕ → ℕ → List ℕ → ℕ → ℕ → ℕ → ℕ
packed_distances original start pitch blocks rows cols t = squares rows cols (at original start pitch) (at blocks (t * 64) cols)

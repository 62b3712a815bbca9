-- Sixteen samples of a plane, n of each row. Definitions only.
use Rattle.std.specs.Prelude.{◌≡◌, ◌⊎◌, ℕ, ◌+◌, ◌*◌, ◌/◌, ◌%◌, List, slice_index}
use Rattle.arith_sample.specs.Upto.{upto}
use Rattle.filter_rows.specs.Place.{on_from, back_from}

-- four rows of four, or two of eight
pub record Wide (n : ℕ) : Type 0 where
  pub is : (n ≡ 4) ⊎ (n ≡ 8)

-- the index of sample j (row j / n, column j % n) of rows whose first sample is at k, in a plane w wide
unfoldable pub at_by : ℕ → ℕ → ℕ → ℕ → ℕ
at_by n w k j = k + (j / n * w + j % n)

-- the samples, their taps at an offset, and the opposite ones
unfoldable pub run_by : ℕ → List ℕ → ℕ → ℕ → List ℕ
run_by n l w k = upto (λ j. slice_index l (at_by n w k j)) 16

unfoldable pub on_by : ℕ → List ℕ → ℕ → ℕ → ℕ → List ℕ
on_by n l w k o = upto (λ j. slice_index l (on_from (at_by n w k j) o)) 16

unfoldable pub back_by : ℕ → List ℕ → ℕ → ℕ → ℕ → List ℕ
back_by n l w k o = upto (λ j. slice_index l (back_from (at_by n w k j) o)) 16

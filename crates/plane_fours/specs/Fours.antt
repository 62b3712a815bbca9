-- 4 by 4 squares of a block in sixteen lanes, their taps straight from a plane without marks. Definitions only.
use Rattle.std.specs.Prelude.{ℕ, List, slice_index}
use Rattle.arith_sample.specs.Sample.{free_of}
use Rattle.arith_sample.specs.Upto.{upto}
use Rattle.plane_taps.specs.Runs.{at_by}
use Rattle.filter_limits.specs.declared.Pair.{Pair}
use Rattle.filter_rows.specs.declared.Strength.{Strength}
use Rattle.plane_taps.specs.Plain.{AllLow, pri_plain, sec_plain, first_of, last_of}

-- the index of sample j (row j / 4, column j % 4) of the square whose first sample is at k, in a plane w wide
abbrev pub four_at : ℕ → ℕ → ℕ → ℕ
four_at w k j = at_by 4 w k j

-- the two taps in lane n
unfoldable pub pair_in : List ℕ → List ℕ → ℕ → Pair
pair_in on back n = record { on = slice_index on n; back = slice_index back n }

-- sample n filtered with both strengths, with the primary and with the secondary one alone, and all sixteen: taps a, their opposites b
unfoldable pub both_lane : List ℕ → List ℕ → List ℕ → List ℕ → List ℕ → List ℕ → List ℕ → List ℕ → List ℕ → List ℕ → List ℕ → List ℕ → List ℕ → Strength → Strength → ℕ → ℕ
both_lane c a0 b0 a1 b1 a2 b2 a3 b3 a4 b4 a5 b5 f g n =
    last_of (first_of (pair_in a0 b0 n) (pair_in a1 b1 n) (slice_index c n) f) (pair_in a2 b2 n) (pair_in a3 b3 n) (pair_in a4 b4 n) (pair_in a5 b5 n) (slice_index c n) g

unfoldable pub both_lanes : List ℕ → List ℕ → List ℕ → List ℕ → List ℕ → List ℕ → List ℕ → List ℕ → List ℕ → List ℕ → List ℕ → List ℕ → List ℕ → Strength → Strength → List ℕ
both_lanes c a0 b0 a1 b1 a2 b2 a3 b3 a4 b4 a5 b5 f g = upto (both_lane c a0 b0 a1 b1 a2 b2 a3 b3 a4 b4 a5 b5 f g) 16

unfoldable pub pri_lane : List ℕ → List ℕ → List ℕ → List ℕ → List ℕ → Strength → ℕ → ℕ
pri_lane c a0 b0 a1 b1 f n = free_of (slice_index c n) (pri_plain (pair_in a0 b0 n) (pair_in a1 b1 n) (slice_index c n) f)

unfoldable pub pri_lanes : List ℕ → List ℕ → List ℕ → List ℕ → List ℕ → Strength → List ℕ
pri_lanes c a0 b0 a1 b1 f = upto (pri_lane c a0 b0 a1 b1 f) 16

unfoldable pub sec_lane : List ℕ → List ℕ → List ℕ → List ℕ → List ℕ → List ℕ → List ℕ → List ℕ → List ℕ → Strength → ℕ → ℕ
sec_lane c a0 b0 a1 b1 a2 b2 a3 b3 f n = free_of (slice_index c n) (sec_plain (pair_in a0 b0 n) (pair_in a1 b1 n) (pair_in a2 b2 n) (pair_in a3 b3 n) (slice_index c n) f)

unfoldable pub sec_lanes : List ℕ → List ℕ → List ℕ → List ℕ → List ℕ → List ℕ → List ℕ → List ℕ → List ℕ → Strength → List ℕ
sec_lanes c a0 b0 a1 b1 a2 b2 a3 b3 f = upto (sec_lane c a0 b0 a1 b1 a2 b2 a3 b3 f) 16

-- four lists of taps of at most 12 bits, so that none is marked
pub record LowPairs (a0 b0 a1 b1 : List ℕ) : Type 0 where
  pub on0 : AllLow a0
  pub back0 : AllLow b0
  pub on1 : AllLow a1
  pub back1 : AllLow b1

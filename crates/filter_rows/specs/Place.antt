-- A tap of the window: a wrapped offset, added to an index or subtracted from it. Definitions only.
use Rattle.std.specs.Prelude.{ℕ, ◌+◌, ◌-◌, ◌%◌, ◌^◌, ◌<◌, ◌≤◌, ◌⊎◌, List, slice_index}
use Rattle.arith_sample.specs.Sample.{or_centre}

-- at most 26 forward or back, as a wrapped number
pub record Near (o : ℕ) : Type 0 where
  pub near : (o ≤ 26) ⊎ ((2 ^ 64 - 26 ≤ o) × (o < 2 ^ 64))

unfoldable pub on_from : ℕ → ℕ → ℕ
on_from k o = (k + o) % 2 ^ 64

unfoldable pub back_from : ℕ → ℕ → ℕ
back_from k o = (k + (2 ^ 64 - o)) % 2 ^ 64

unfoldable pub tap_on : List ℕ → ℕ → ℕ → ℕ → ℕ
tap_on w k o c = or_centre (slice_index w (on_from k o)) c

unfoldable pub tap_back : List ℕ → ℕ → ℕ → ℕ → ℕ
tap_back w k o c = or_centre (slice_index w (back_from k o)) c

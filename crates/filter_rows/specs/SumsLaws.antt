-- Laws of the taps and the sums: what they are bounded by.
use Rattle.std.specs.Prelude.{ℕ, ◌≤◌, Bool, true, false, cond, List, ◌==◌, slice_index}
use Rattle.std.proofs.Common.{arith}
use Rattle.arith_sample.specs.Sample.{or_centre}
use Rattle.filter_rows.specs.Place.{on_from, back_from, tap_on, tap_back}
use Rattle.arith_sample.specs.Bounds.{Held}
use Rattle.filter_rows.specs.Sums.{low_pair, high_pair}

centre-le : (t c : ℕ) → t ≤ 16384 → c ≤ 16384 → or_centre t c ≤ 16384
unfolding or_centre
centre-le t c h g = go (t == 16384) (c == 16384)
  where
    go : (a b : Bool) → cond a c (cond b c t) ≤ 16384
    go true b = g
    go false true = g
    go false false = h

module _ (w : List ℕ) (k o c : ℕ) (h : Held w) (hc : c ≤ 16384) where
  pub on-le : tap_on w k o c ≤ 16384
  unfolding tap_on
  on-le = centre-le (slice_index w (on_from k o)) c (h.all (on_from k o)) hc

  pub tap-back-le : tap_back w k o c ≤ 16384
  unfolding tap_back
  tap-back-le = centre-le (slice_index w (back_from k o)) c (h.all (back_from k o)) hc

  pub low-pair-le : low_pair w k o c ≤ 16384
  unfolding low_pair
  low-pair-le = omega (arith, on-le)

  pub high-pair-le : high_pair w k o c ≤ 16384
  unfolding high_pair
  high-pair-le = omega (arith, on-le, tap-back-le)

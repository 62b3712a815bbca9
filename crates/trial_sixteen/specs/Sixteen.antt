-- The twelve trial blocks from a list of samples whose taps lie at wrapped offsets; marks as in trial_sums. Definitions only.
use Rattle.std.specs.Prelude.{cond, List, [], Option, Some, None, ◌≡◌, ℕ, ◌+◌, ◌/◌, ◌%◌, eqb, ℤ, ◌+ℤ◌, get_or}
use Rattle.std.specs.Int.Signed.{mag}
use Rattle.cdef_spec.specs.Standard.{Tap, sample}
use Rattle.cdef_spec.specs.LoopForm.{put_row}
use Rattle.arith_sample.specs.Bounds.{Within}
use Rattle.arith_sample.specs.Sample.{moved_of, over_of, under_of}
use Rattle.filter_limits.specs.Limits.{lowest_of, highest_of}
use Rattle.filter_rows.specs.declared.Taps.{Taps}
use Rattle.filter_rows.specs.declared.Strength.{Strength}
use Rattle.filter_rows.specs.Pairs.{pairs_of}
use Rattle.filter_rows.specs.Sums.{InRange}
use Rattle.trial_strengths.specs.declared.Twelve.{Twelve}
use Rattle.trial_runs.specs.Runs.{run_tap, raised_tap, clipped_tap}
use Rattle.trial_sums.specs.Raw.{pri_raw, sec_raw}

-- the sample at index k of the list l: by one sum, and by both
unfoldable pub raised_raw : List ℕ → ℕ → ℤ → ℕ
raised_raw l k z = mag (over_of (moved_of (get_or l k 0) z) 0)

unfoldable pub clipped_raw : List ℕ → ℕ → Taps → ℤ → ℕ
clipped_raw l k o z = mag (under_of (over_of (moved_of (get_or l k 0) z) (lowest_of (pairs_of l k o) (get_or l k 0))) (highest_of (pairs_of l k o) (get_or l k 0)))

-- the strengths of trial t: its primary by t % 4, its secondary by t / 4, where these are not 0
unfoldable pub pri_by : Twelve → ℕ → Strength
pri_by u i = cond (eqb i 1) u.p1 (cond (eqb i 2) u.p2 u.p3)

unfoldable pub sec_by : Twelve → ℕ → Strength
sec_by u j = cond (eqb j 1) u.s1 u.s2

-- the taps of direction 0, and where there are none the block's own
unfoldable pub taps_or : Taps → Option Taps → Taps
taps_or own None = own
taps_or own (Some zero) = zero

-- entry c of trial block t, where entry 0 lies at index `from` of the list: by no sum; by the secondary one alone, with the taps `zero`;
-- by the primary one alone, and by both, with the taps `own`
unfoldable pub raw_tap : List ℕ → ℕ → Taps → Taps → Twelve → ℕ → ℕ → Tap
raw_tap l from own zero u t c =
    let k = from + c in
    let f = pri_by u (t % 4) in
    let g = sec_by u (t / 4) in
    cond (eqb (t % 4) 0)
    (cond (eqb (t / 4) 0) (sample (get_or l k 0)) (sample (raised_raw l k (sec_raw l k zero g.s g.sh))))
    (cond (eqb (t / 4) 0) (sample (raised_raw l k (pri_raw l k own f))) (sample (clipped_raw l k own (pri_raw l k own f +ℤ sec_raw l k own g.s g.sh))))

-- the strengths lie in range; and where the primaries 2 and 4 are adjusted to the same strength, shift and weights are the same
pub record Strong (u : Twelve) : Type 0 where
  pub p1 : InRange u.p1
  pub p2 : InRange u.p2
  pub p3 : InRange u.p3
  pub s1 : InRange u.s1
  pub s2 : InRange u.s2
  pub same : u.p2.s ≡ u.p3.s → u.p2 ≡ u.p3

-- ---- what is stored of sixteen entries, from entry k on

pub record PriWithin (p : List (List ℤ)) : Type 0 where
  pub p1 : Within (get_or p 0 []) 3840
  pub p2 : Within (get_or p 1 []) 3840
  pub p3 : Within (get_or p 2 []) 3840

-- the trials 0 to 3: unfiltered, then by each of the three sums alone
abbrev pub first_runs : List ℕ → List ℕ → List (List ℤ) → ℕ → List ℕ
first_runs d c p k = put_row (put_row (put_row (put_row d 64 (run_tap c k) 0 k 16) 64 (raised_tap c (get_or p 0 []) k) 1 k 16) 64 (raised_tap c (get_or p 1 []) k) 2 k 16) 64 (raised_tap c (get_or p 2 []) k) 3 k 16

-- four trials, from trial t on: by a sum z alone, then by s with each of the three
abbrev pub four_runs : List ℕ → List ℕ → List ℤ → List ℤ → List (List ℤ) → List ℕ → List ℕ → ℕ → ℕ → List ℕ
four_runs d c z s p lo hi t k =
    put_row (put_row (put_row (put_row d 64 (raised_tap c z k) t k 16) 64 (clipped_tap c (get_or p 0 []) s lo hi k) (t + 1) k 16)
    64 (clipped_tap c (get_or p 1 []) s lo hi k) (t + 2) k 16)
    64 (clipped_tap c (get_or p 2 []) s lo hi k) (t + 3) k 16

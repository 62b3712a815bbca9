-- The trial in the code's form: twelve trial blocks from the window of a block. Definitions only.
use Rattle.std.specs.Prelude.{cond, List, ◌≡◌, ℕ, ◌+◌, ◌*◌, ◌/◌, ◌%◌, eqb, get_or}
use Rattle.cdef_spec.specs.Standard.{Tap, sample}
use Rattle.arith_sample.specs.Sample.{free_of}
use Rattle.filter_rows.specs.declared.Taps.{Taps}
use Rattle.filter_rows.specs.declared.Strength.{Strength}
use Rattle.filter_rows.specs.Sums.{pri_at, sec_at, filtered_at}
use Rattle.filter_kernel.specs.Kernel.{taps_of}
use Rattle.trial_strengths.specs.declared.Twelve.{Twelve}
use Rattle.trial_sixteen.specs.Sixteen.{pri_by, sec_by}
use Rattle.trial_marks.specs.Marks.{Quiet, Side}

-- ---- entry c of a trial block w wide, as a sample to be stored: a marked centre is stored as 16384; t, the row in which put_row stores it, is not used

-- its index in the window
abbrev pub seen : ℕ → ℕ → ℕ
seen w c = (c / w + 2) * 12 + 2 + c % w

-- from the window: the centre; one strength; both
unfoldable pub centre_tap : List ℕ → ℕ → ℕ → ℕ → Tap
centre_tap win w t c = sample (get_or win (seen w c) 0)

unfoldable pub pri_tap : List ℕ → Taps → Strength → ℕ → ℕ → ℕ → Tap
pri_tap win a f w t c = sample (free_of (get_or win (seen w c) 0) (pri_at win (seen w c) a f))

unfoldable pub sec_tap : List ℕ → Taps → Strength → ℕ → ℕ → ℕ → Tap
sec_tap win a g w t c = sample (free_of (get_or win (seen w c) 0) (sec_at win (seen w c) a g))

unfoldable pub full_tap : List ℕ → Taps → Strength → Strength → ℕ → ℕ → ℕ → Tap
full_tap win a f g w t c = sample (filtered_at win (seen w c) a f g)

-- ---- all twelve: trial t has the secondary strength t / 4 and the primary t % 4
unfoldable pub trial_tap : List ℕ → Twelve → ℕ → ℕ → ℕ → Tap
unfolding centre_tap pri_tap sec_tap full_tap pri_by sec_by
trial_tap win u w t c =
    cond (eqb (t % 4) 0)
    (cond (eqb (t / 4) 0) (centre_tap win w t c) (sec_tap win u.zero (sec_by u (t / 4)) w t c))
    (cond (eqb (t / 4) 0) (pri_tap win u.own (pri_by u (t % 4)) w t c) (full_tap win u.own (pri_by u (t % 4)) (sec_by u (t / 4)) w t c))

-- the parameters of a trial in direction dir, none of them so strong that a mark adds to a sum
pub record Tame (u : Twelve) (dir : ℕ) : Type 0 where
  pub zero : u.zero ≡ taps_of 0
  pub own : u.own ≡ taps_of dir
  pub p1 : Quiet u.p1.s u.p1.sh
  pub p2 : Quiet u.p2.s u.p2.sh
  pub p3 : Quiet u.p3.s u.p3.sh
  pub s1 : Side u.s1
  pub s2 : Side u.s2

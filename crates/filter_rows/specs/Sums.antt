-- The sums of one sample of the window, and the least and the greatest of it and its taps. A pair is a tap and its opposite. Definitions only.
use Rattle.std.specs.Prelude.{Bool, cond, ℕ, ◌≤◌, min, max, List, ℤ, pos, ◌+ℤ◌, ◌*ℤ◌, slice_index, slice_index_or}
use Rattle.arith_sample.specs.Sample.{con_of, finish_of}
use Rattle.filter_rows.specs.Place.{Near, tap_on, tap_back}
use Rattle.filter_rows.specs.declared.Taps.{Taps}
use Rattle.filter_rows.specs.declared.Strength.{Strength}

-- all six offsets lead two rows and two columns away at most
pub record Near6 (t : Taps) : Type 0 where
  pub p0 : Near t.p0
  pub p1 : Near t.p1
  pub q0 : Near t.q0
  pub q1 : Near t.q1
  pub r0 : Near t.r0
  pub r1 : Near t.r1

-- a strength of any depth, with its shift and its weights
pub record InRange (f : Strength) : Type 0 where
  pub s : f.s ≤ 240
  pub sh : f.sh ≤ 15
  pub w0 : f.w0 ≤ 4
  pub w1 : f.w1 ≤ 4

-- a tap and its opposite, constrained
unfoldable pub pair_at : List ℕ → ℕ → ℕ → ℕ → ℕ → ℕ → ℤ
pair_at w k o c s sh = con_of (tap_on w k o c) c s sh +ℤ con_of (tap_back w k o c) c s sh

unfoldable pub low_pair : List ℕ → ℕ → ℕ → ℕ → ℕ
low_pair w k o c = min (tap_on w k o c) (tap_back w k o c)

unfoldable pub high_pair : List ℕ → ℕ → ℕ → ℕ → ℕ
high_pair w k o c = max (tap_on w k o c) (tap_back w k o c)

-- the primary taps' weighed sum at index k
unfoldable pub pri_at : List ℕ → ℕ → Taps → Strength → ℤ
pri_at w k t f =
    let c = slice_index_or w k 0 in
    pos f.w0 *ℤ pair_at w k t.p0 c f.s f.sh +ℤ pos f.w1 *ℤ pair_at w k t.p1 c f.s f.sh

-- the taps of the two side directions at one distance, q and r, weighed by v
unfoldable pub side_at : List ℕ → ℕ → ℕ → ℕ → ℕ → ℕ → ℕ → ℤ
side_at w k q r v s sh =
    let c = slice_index_or w k 0 in
    pos v *ℤ (pair_at w k q c s sh +ℤ pair_at w k r c s sh)

-- the near ones, and the far ones
unfoldable pub sec_at : List ℕ → ℕ → Taps → Strength → ℤ
sec_at w k t f = side_at w k t.q0 t.r0 f.w0 f.s f.sh +ℤ side_at w k t.q1 t.r1 f.w1 f.s f.sh

-- the primary (false) or the secondary ones (true)
unfoldable pub alone_at : Bool → List ℕ → ℕ → Taps → Strength → ℤ
alone_at b w k t f = cond b (sec_at w k t f) (pri_at w k t f)

-- the least and the greatest of the sample at index k and its taps; a marked tap counts as the sample
unfoldable pub low_at : List ℕ → ℕ → Taps → ℕ
low_at w k t =
    let c = slice_index_or w k 0 in
    min (min (min (low_pair w k t.p0 c) (low_pair w k t.p1 c)) (min (low_pair w k t.q0 c) (low_pair w k t.q1 c)))
    (min (min (low_pair w k t.r0 c) (low_pair w k t.r1 c)) c)

unfoldable pub high_at : List ℕ → ℕ → Taps → ℕ
high_at w k t =
    let c = slice_index_or w k 0 in
    max (max (max (high_pair w k t.p0 c) (high_pair w k t.p1 c)) (max (high_pair w k t.q0 c) (high_pair w k t.q1 c)))
    (max (max (high_pair w k t.r0 c) (high_pair w k t.r1 c)) c)

-- the sample at index k, filtered with both strengths
unfoldable pub filtered_at : List ℕ → ℕ → Taps → Strength → Strength → ℕ
filtered_at w k t f g = finish_of (slice_index w k) (pri_at w k t f +ℤ sec_at w k t g) (low_at w k t) (high_at w k t)

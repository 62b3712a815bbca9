-- One sample from the values of its taps, of which none is tested for the mark. A pair is a tap and its opposite. Definitions only.
use Rattle.std.specs.Prelude.{Bool, cond, ℕ, ◌<◌, ◌≤◌, min, max, List, ℤ, ◌+ℤ◌, slice_index, unsigned_abs}
use Rattle.arith_sample.specs.Sample.{con_of, finish_of}
use Rattle.filter_rows.specs.declared.Strength.{Strength}
use Rattle.filter_limits.specs.declared.Pair.{Pair}
use Rattle.filter_rows.specs.Pairs.{weighed}
use Rattle.plane_taps.specs.declared.plain.Part.{Part}

-- both samples below the mark, 16384
pub record Low (p : Pair) : Type 0 where
  pub on : p.on < 16384
  pub back : p.back < 16384

-- samples of at most 12 bits, none of them the mark
pub record AllLow (l : List ℕ) : Type 0 where
  pub all : (k : ℕ) → slice_index l k < 4096

-- a tap and its opposite, constrained
unfoldable pub pair_plain : Pair → ℕ → ℕ → ℕ → ℤ
pair_plain p c s sh = con_of p.on c s sh +ℤ con_of p.back c s sh

unfoldable pub pri_plain : Pair → Pair → ℕ → Strength → ℤ
pri_plain p0 p1 c f = weighed (pair_plain p0 c f.s f.sh) (pair_plain p1 c f.s f.sh) f

unfoldable pub sec_plain : Pair → Pair → Pair → Pair → ℕ → Strength → ℤ
sec_plain q0 q1 r0 r1 c f =
    weighed
    (pair_plain q0 c f.s f.sh +ℤ pair_plain r0 c f.s f.sh)
    (pair_plain q1 c f.s f.sh +ℤ pair_plain r1 c f.s f.sh)
    f

-- the least and the greatest of two pairs
unfoldable pub low_two : Pair → Pair → ℕ
low_two p q = min (min p.on p.back) (min q.on q.back)

unfoldable pub high_two : Pair → Pair → ℕ
high_two p q = max (max p.on p.back) (max q.on q.back)

-- the least (false) or the greatest (true)
unfoldable pub limit_two : Bool → Pair → Pair → ℕ
limit_two b p q = cond b (high_two p q) (low_two p q)

-- the primary taps' sum, and the least and the greatest of them and the centre
unfoldable pub first_of : Pair → Pair → ℕ → Strength → Part
first_of p0 p1 c f = record { sum = pri_plain p0 p1 c f; lo = min (low_two p0 p1) c; hi = max (high_two p0 p1) c }

-- the sample, with the secondary taps
unfoldable pub last_of : Part → Pair → Pair → Pair → Pair → ℕ → Strength → ℕ
last_of m q0 q1 r0 r1 c g =
    finish_of c (m.sum +ℤ sec_plain q0 q1 r0 r1 c g)
    (min m.lo (min (low_two q0 q1) (low_two r0 r1)))
    (max m.hi (max (high_two q0 q1) (high_two r0 r1)))

-- the sum at most 16 * 240 either way (four taps of weights up to 4; they add up to 12, in fact), least and greatest below the mark
pub record Bounded (m : Part) : Type 0 where
  pub sum : unsigned_abs m.sum ≤ 3840
  pub lo : m.lo < 16384
  pub hi : m.hi < 16384

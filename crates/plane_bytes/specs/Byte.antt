-- One sample from its taps in bytes: what is above the centre and what is below it are summed apart. Definitions only.
use Rattle.std.specs.Prelude.{◌≡◌, Bool, cond, ℕ, ◌+◌, ◌-◌, min, max, ◌⊎◌}
use Rattle.plane_byte.specs.Arithmetic.{above_of, excess_of}

-- two opposite taps a and b: the sum of what is above the centre c, and of what is below it
unfoldable pub up_pair : ℕ → ℕ → ℕ → ℕ → ℕ → ℕ
up_pair a b c s sh = above_of a c s sh + above_of b c s sh

unfoldable pub down_pair : ℕ → ℕ → ℕ → ℕ → ℕ → ℕ
down_pair a b c s sh = above_of c a s sh + above_of c b s sh

-- all bits or none
pub record Mask (odd : ℕ) : Type 0 where
  pub is : (odd ≡ 0) ⊎ (odd ≡ 255)

-- the primary weights: 4 n + 2 f where odd is 0, 3 n + 3 f where it is 255
unfoldable pub weigh_pri : ℕ → ℕ → ℕ → ℕ
weigh_pri n f odd = (n + f) + (n + f) + n + (min f odd + min n (255 - odd))

-- the secondary weights: 2 n + f
unfoldable pub weigh_sec : ℕ → ℕ → ℕ
weigh_sec n f = n + n + f

-- the primary taps
unfoldable pub up_pri : ℕ → ℕ → ℕ → ℕ → ℕ → ℕ → ℕ → ℕ → ℕ
up_pri a0 b0 a1 b1 c s sh odd = weigh_pri (up_pair a0 b0 c s sh) (up_pair a1 b1 c s sh) odd

unfoldable pub down_pri : ℕ → ℕ → ℕ → ℕ → ℕ → ℕ → ℕ → ℕ → ℕ
down_pri a0 b0 a1 b1 c s sh odd = weigh_pri (down_pair a0 b0 c s sh) (down_pair a1 b1 c s sh) odd

-- the secondary taps
unfoldable pub up_sec : ℕ → ℕ → ℕ → ℕ → ℕ → ℕ → ℕ → ℕ → ℕ → ℕ → ℕ → ℕ
up_sec a0 b0 a1 b1 a2 b2 a3 b3 c s sh = weigh_sec (up_pair a0 b0 c s sh + up_pair a2 b2 c s sh) (up_pair a1 b1 c s sh + up_pair a3 b3 c s sh)

unfoldable pub down_sec : ℕ → ℕ → ℕ → ℕ → ℕ → ℕ → ℕ → ℕ → ℕ → ℕ → ℕ → ℕ
down_sec a0 b0 a1 b1 a2 b2 a3 b3 c s sh = weigh_sec (down_pair a0 b0 c s sh + down_pair a2 b2 c s sh) (down_pair a1 b1 c s sh + down_pair a3 b3 c s sh)

-- the most that any of four taps is above the centre, and below it
unfoldable pub high_four : ℕ → ℕ → ℕ → ℕ → ℕ → ℕ
high_four a0 b0 a1 b1 c = max (max (a0 - c) (b0 - c)) (max (a1 - c) (b1 - c))

unfoldable pub low_four : ℕ → ℕ → ℕ → ℕ → ℕ → ℕ
low_four a0 b0 a1 b1 c = max (max (c - a0) (c - b0)) (max (c - a1) (c - b1))

-- the same above the centre (true) or below it (false): how far a tap is, constrained, of a pair, of the primary and of the secondary taps;
-- how far it is, and the most of it of four
unfoldable pub apart_of : Bool → ℕ → ℕ → ℕ → ℕ → ℕ
apart_of u t c s sh = cond u (above_of t c s sh) (above_of c t s sh)

unfoldable pub pair_of : Bool → ℕ → ℕ → ℕ → ℕ → ℕ → ℕ
pair_of u a b c s sh = cond u (up_pair a b c s sh) (down_pair a b c s sh)

unfoldable pub pri_of : Bool → ℕ → ℕ → ℕ → ℕ → ℕ → ℕ → ℕ → ℕ → ℕ
pri_of u a0 b0 a1 b1 c s sh odd = cond u (up_pri a0 b0 a1 b1 c s sh odd) (down_pri a0 b0 a1 b1 c s sh odd)

unfoldable pub sec_of : Bool → ℕ → ℕ → ℕ → ℕ → ℕ → ℕ → ℕ → ℕ → ℕ → ℕ → ℕ → ℕ
sec_of u a0 b0 a1 b1 a2 b2 a3 b3 c s sh = cond u (up_sec a0 b0 a1 b1 a2 b2 a3 b3 c s sh) (down_sec a0 b0 a1 b1 a2 b2 a3 b3 c s sh)

unfoldable pub past_of : Bool → ℕ → ℕ → ℕ
past_of u t c = cond u (t - c) (c - t)

unfoldable pub four_of : Bool → ℕ → ℕ → ℕ → ℕ → ℕ → ℕ
four_of u a0 b0 a1 b1 c = cond u (high_four a0 b0 a1 b1 c) (low_four a0 b0 a1 b1 c)

-- the sample from its sums, clipped; at most one of the two corrections is not 0
unfoldable pub clipped_of : ℕ → ℕ → ℕ → ℕ → ℕ → ℕ
clipped_of c up down high low = (c + min (excess_of up down) high) - min (excess_of down up) low

-- filtered with both strengths: primary taps 0 near, 1 far; secondary taps 2 and 4 near, 3 and 5 far; b opposite a
unfoldable pub both_of : ℕ → ℕ → ℕ → ℕ → ℕ → ℕ → ℕ → ℕ → ℕ → ℕ → ℕ → ℕ → ℕ → ℕ → ℕ → ℕ → ℕ → ℕ → ℕ
both_of a0 b0 a1 b1 a2 b2 a3 b3 a4 b4 a5 b5 c s sh odd s2 sh2 =
    clipped_of c
    (up_pri a0 b0 a1 b1 c s sh odd + up_sec a2 b2 a3 b3 a4 b4 a5 b5 c s2 sh2)
    (down_pri a0 b0 a1 b1 c s sh odd + down_sec a2 b2 a3 b3 a4 b4 a5 b5 c s2 sh2)
    (max (high_four a0 b0 a1 b1 c) (max (high_four a2 b2 a3 b3 c) (high_four a4 b4 a5 b5 c)))
    (max (low_four a0 b0 a1 b1 c) (max (low_four a2 b2 a3 b3 c) (low_four a4 b4 a5 b5 c)))

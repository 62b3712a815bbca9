-- Bounds of the numbers from which a sample is computed in bytes.
use Rattle.std.specs.Prelude.{◌≡◌, Bool, true, false, ℕ, ◌+◌, ◌-◌, ◌*◌, ◌<◌, ◌≤◌, min, max}
use Rattle.std.proofs.Common.{⊎_elim, refl, arith}
use Rattle.plane_bytes.specs.Byte.{Mask, weigh_pri, weigh_sec, up_pair, down_pair, up_pri, down_pri, up_sec, down_sec, high_four, low_four, apart_of, pair_of, pri_of, sec_of, past_of, four_of}
use Rattle.plane_byte.specs.Arithmetic.{above_of}

pub above-le : (a b s sh : ℕ) → above_of a b s sh ≤ s
unfolding above_of
above-le a b s sh = omega arith

pub weigh-four : (n f : ℕ) → n ≤ 255 → weigh_pri n f 0 ≡ 4 * n + 2 * f
unfolding weigh_pri
weigh-four n f h = omega arith

pub weigh-three : (n f : ℕ) → f ≤ 255 → weigh_pri n f 255 ≡ 3 * n + 3 * f
unfolding weigh_pri
weigh-three n f h = omega arith

pub weigh-le : (n f odd : ℕ) → n ≤ 30 → f ≤ 30 → Mask odd → weigh_pri n f odd ≤ 180
weigh-le n f odd hn hf m = ⊎_elim (λ e. rw e (omega (arith, weigh-four n f (omega arith)))) (λ e. rw e (omega (arith, weigh-three n f (omega arith)))) m.is

pub weigh-ok : (n f odd x y : ℕ) → n ≤ 30 → f ≤ 30 → Mask odd → x ≡ min f odd → y ≡ min n (255 - odd) → ((n + f) + (n + f) + n + (x + y) ≡ weigh_pri n f odd) × ((n + f) + (n + f) + n + (x + y) ≤ 180)
unfolding weigh_pri
weigh-ok n f odd x y hn hf m ex ey = (rw (ex, ey), rw (ex, ey) (weigh-le n f odd hn hf m))

-- ---- the limits

pub less-max : (a b c : ℕ) → max (a - c) (b - c) ≡ max a b - c
less-max a b c = omega arith

pub less-min : (a b c : ℕ) → max (c - a) (c - b) ≡ c - min a b
less-min a b c = omega arith

pub high_le : (a0 b0 a1 b1 c : ℕ) → a0 < 256 → b0 < 256 → a1 < 256 → b1 < 256 → c < 256 → high_four a0 b0 a1 b1 c + c ≤ 255
unfolding high_four
high_le a0 b0 a1 b1 c h0 h1 h2 h3 hc = rw (less-max a0 b0 c, less-max a1 b1 c, less-max (max a0 b0) (max a1 b1) c) (omega arith)

pub low-le : (a0 b0 a1 b1 c : ℕ) → low_four a0 b0 a1 b1 c ≤ c
unfolding low_four
low-le a0 b0 a1 b1 c = rw (less-min a0 b0 c, less-min a1 b1 c, less-min (min a0 b0) (min a1 b1) c) (omega arith)

-- ---- the two sides alike

pub pair-is : (u : Bool) (a b c s sh : ℕ) → apart_of u a c s sh + apart_of u b c s sh ≡ pair_of u a b c s sh
unfolding apart_of pair_of up_pair down_pair
pair-is true a b c s sh = refl
pair-is false a b c s sh = refl

pub pri-is : (u : Bool) (a0 b0 a1 b1 c s sh odd : ℕ) → weigh_pri (pair_of u a0 b0 c s sh) (pair_of u a1 b1 c s sh) odd ≡ pri_of u a0 b0 a1 b1 c s sh odd
unfolding pair_of pri_of up_pri down_pri
pri-is true a0 b0 a1 b1 c s sh odd = refl
pri-is false a0 b0 a1 b1 c s sh odd = refl

pub sec-is : (u : Bool) (a0 b0 a1 b1 a2 b2 a3 b3 c s sh : ℕ) → weigh_sec (pair_of u a0 b0 c s sh + pair_of u a2 b2 c s sh) (pair_of u a1 b1 c s sh + pair_of u a3 b3 c s sh) ≡ sec_of u a0 b0 a1 b1 a2 b2 a3 b3 c s sh
unfolding pair_of sec_of up_sec down_sec
sec-is true a0 b0 a1 b1 a2 b2 a3 b3 c s sh = refl
sec-is false a0 b0 a1 b1 a2 b2 a3 b3 c s sh = refl

pub four-is : (u : Bool) (a0 b0 a1 b1 c : ℕ) → max (max (past_of u a0 c) (past_of u b0 c)) (max (past_of u a1 c) (past_of u b1 c)) ≡ four_of u a0 b0 a1 b1 c
unfolding past_of four_of high_four low_four
four-is true a0 b0 a1 b1 c = refl
four-is false a0 b0 a1 b1 c = refl

-- A sample computed in bytes is the sample of one computed from signed differences.
use Rattle.std.specs.Prelude.{◌≡◌, ℕ, zero, suc, ◌+◌, ◌-◌, ◌*◌, ◌/◌, ◌^◌, ◌<◌, ◌≤◌, min, ℤ, pos, negsuc, ◌+ℤ◌, ◌-ℤ◌, ◌*ℤ◌, neg_ℤ}
use Rattle.std.proofs.Common.{sym, ap, ◌∙◌, mul-le-mul_left, lt-ltb, le-ltb}
use Rattle.std.proofs.Math.Decide.{dec_lt}
use Rattle.std.proofs.Math.Nat.{mul-sub}
use native.Mathlib.Omega.{arith}
use Rattle.std.proofs.Math.IntN.{+ℤ_idl, +ℤ_idr, +ℤ_assoc, +ℤ_comm, neg_ℤ-+ℤ}
use Rattle.arith_sample.specs.Sample.{size_of, con_of}
use Rattle.arith_sample.specs.SampleLaws.{con-below, con-above}
use Rattle.filter_rows.specs.Pairs.{weighed}
use Rattle.filter_limits.specs.declared.Pair.{Pair}
use Rattle.plane_taps.specs.Plain.{pair_plain, pri_plain, sec_plain}
use Rattle.plane_rows.specs.Rows.{pri_in, sec_in}
use Rattle.plane_bytes.specs.Byte.{up_pair, down_pair, weigh_pri, weigh_sec, up_pri, down_pri, up_sec, down_sec}
use Rattle.plane_byte.specs.Arithmetic.{above_of}
use Rattle.plane_bytes.specs.ByteBounds.{above-le, weigh-four, weigh-three}

-- ---- a difference of two numbers

abbrev pub gap : ℕ → ℕ → ℤ
gap a b = pos a -ℤ pos b

pub gap-add : (a b c d : ℕ) → gap a b +ℤ gap c d ≡ gap (a + c) (b + d)
gap-add a b c d =
    let n : neg_ℤ (pos b) +ℤ neg_ℤ (pos d) ≡ neg_ℤ (pos (b + d)) = sym (neg_ℤ-+ℤ (pos b) (pos d)) in
    +ℤ_assoc (pos a) (neg_ℤ (pos b)) (gap c d)
    ∙ ap (λ (z : ℤ). pos a +ℤ z) (sym (+ℤ_assoc (neg_ℤ (pos b)) (pos c) (neg_ℤ (pos d))) ∙ ap (λ (z : ℤ). z +ℤ neg_ℤ (pos d)) (+ℤ_comm (neg_ℤ (pos b)) (pos c)) ∙ +ℤ_assoc (pos c) (neg_ℤ (pos b)) (neg_ℤ (pos d)) ∙ ap (λ (z : ℤ). pos c +ℤ z) n)
    ∙ sym (+ℤ_assoc (pos a) (pos c) (neg_ℤ (pos (b + d))))

pub gap_below : (p c : ℕ) → p < c → gap p c ≡ negsuc (c - suc p)
gap_below p zero h = absurd (omega arith)
gap_below p (suc c) h = rw (lt-ltb p (suc c) h)

pub gap-above : (p c : ℕ) → c ≤ p → gap p c ≡ pos (p - c)
gap-above p zero h = ap pos (omega arith)
gap-above p (suc c) h = rw (le-ltb p (suc c) h)

gap-scale : (k a b : ℕ) → pos (suc k) *ℤ gap a b ≡ gap (suc k * a) (suc k * b)
gap-scale k a b = go (dec_lt a b)
  where
    go : Dec (a < b) → pos (suc k) *ℤ gap a b ≡ gap (suc k * a) (suc k * b)
    go (yes l) =
        let m : suc k * suc a ≤ suc k * b = mul-le-mul_left (suc k) l in
        let e : suc (b - suc a) ≡ b - a = omega arith in
        let d : suc k * (b - a) ≡ suc k * b - suc k * a = mul-sub (suc k) b a in
        let x : suc k * b - suc k * a ≡ suc (suc k * b - suc (suc k * a)) = omega arith in
        rw (gap_below a b l, gap_below (suc k * a) (suc k * b) (omega arith)) (ap (λ (n : ℕ). neg_ℤ (pos n)) (ap (λ (n : ℕ). suc k * n) e ∙ d ∙ x))
    go (no l) =
        let g : b ≤ a = omega arith in
        let m : suc k * b ≤ suc k * a = mul-le-mul_left (suc k) g in
        rw (gap-above a b g, gap-above (suc k * a) (suc k * b) m) (ap pos (mul-sub (suc k) a b))

-- ---- the constrained difference

above-con : (p c s sh : ℕ) → gap (above_of p c s sh) (above_of c p s sh) ≡ con_of p c s sh
unfolding above_of size_of
above-con p c s sh = go (dec_lt p c)
  where
    go : Dec (p < c) → gap (min (p - c) (s - ((p - c) + (c - p)) / 2 ^ sh)) (min (c - p) (s - ((c - p) + (p - c)) / 2 ^ sh)) ≡ con_of p c s sh
    go (yes l) =
        let a : min (p - c) (s - ((p - c) + (c - p)) / 2 ^ sh) ≡ 0 = omega arith in
        let e : (c - p) + (p - c) ≡ (p - c) + (c - p) = omega arith in
        let d : c - p ≡ (p - c) + (c - p) = omega arith in
        rw (a, e) (+ℤ_idl _ ∙ ap (λ (n : ℕ). neg_ℤ (pos (min n (s - ((p - c) + (c - p)) / 2 ^ sh)))) d) ∙ sym (con-below p c s sh l)
    go (no l) =
        let g : c ≤ p = omega arith in
        let a : min (c - p) (s - ((c - p) + (p - c)) / 2 ^ sh) ≡ 0 = omega arith in
        let d : p - c ≡ (p - c) + (c - p) = omega arith in
        rw a (+ℤ_idr _ ∙ ap (λ (n : ℕ). pos (min n (s - ((p - c) + (c - p)) / 2 ^ sh))) d) ∙ sym (con-above p c s sh g)

abbrev pub pair : ℕ → ℕ → Pair
pair a b = record { on = a; back = b }

pair-con : (a b c s sh : ℕ) → gap (up_pair a b c s sh) (down_pair a b c s sh) ≡ pair_plain (pair a b) c s sh
unfolding up_pair down_pair pair_plain
pair-con a b c s sh = sym (gap-add (above_of a c s sh) (above_of c a s sh) (above_of b c s sh) (above_of c b s sh)) ∙ rw (above-con a c s sh, above-con b c s sh)

two-con : (a b d e c s sh : ℕ) → gap (up_pair a b c s sh + up_pair d e c s sh) (down_pair a b c s sh + down_pair d e c s sh) ≡ pair_plain (pair a b) c s sh +ℤ pair_plain (pair d e) c s sh
two-con a b d e c s sh = sym (gap-add (up_pair a b c s sh) (down_pair a b c s sh) (up_pair d e c s sh) (down_pair d e c s sh)) ∙ rw (pair-con a b c s sh, pair-con d e c s sh)

-- ---- bounds

up_le : (a b c s sh : ℕ) → up_pair a b c s sh ≤ s + s
unfolding up_pair
up_le a b c s sh = omega (arith, above-le a c s sh, above-le b c s sh)

down_le : (a b c s sh : ℕ) → down_pair a b c s sh ≤ s + s
unfolding down_pair
down_le a b c s sh = omega (arith, above-le c a s sh, above-le c b s sh)

-- ---- the weighted sums

weighs : (k m n f o g : ℕ) → gap (suc k * n + suc m * f) (suc k * o + suc m * g) ≡ pos (suc k) *ℤ gap n o +ℤ pos (suc m) *ℤ gap f g
weighs k m n f o g = sym (gap-add (suc k * n) (suc k * o) (suc m * f) (suc m * g)) ∙ rw (gap-scale k n o, gap-scale m f g)

module _ (n f o g s sh : ℕ) (hn : n ≤ 255) (hf : f ≤ 255) (ho : o ≤ 255) (hg : g ≤ 255) where
  weigh-con : (near : ℕ) → 3 ≤ near → near ≤ 4 → gap (weigh_pri n f ((4 - near) * 255)) (weigh_pri o g ((4 - near) * 255)) ≡ weighed (gap n o) (gap f g) (pri_in s sh near)
  unfolding weighed pri_in
  weigh-con near lo hi = go (dec_lt near 4)
    where
      go : Dec (near < 4) → gap (weigh_pri n f ((4 - near) * 255)) (weigh_pri o g ((4 - near) * 255)) ≡ pos near *ℤ gap n o +ℤ pos (6 - near) *ℤ gap f g
      go (yes l) = let e : near ≡ 3 = omega arith in rw e (rw (weigh-three n f hf, weigh-three o g hg) (weighs 2 2 n f o g))
      go (no l) = let e : near ≡ 4 = omega arith in rw e (rw (weigh-four n f hn, weigh-four o g ho) (weighs 3 1 n f o g))

pub pri-con : (a0 b0 a1 b1 c s sh near : ℕ) → s ≤ 15 → 3 ≤ near → near ≤ 4 → gap (up_pri a0 b0 a1 b1 c s sh ((4 - near) * 255)) (down_pri a0 b0 a1 b1 c s sh ((4 - near) * 255)) ≡ pri_plain (pair a0 b0) (pair a1 b1) c (pri_in s sh near)
unfolding up_pri down_pri pri_plain pri_in
pri-con a0 b0 a1 b1 c s sh near hs lo hi =
    weigh-con (up_pair a0 b0 c s sh) (up_pair a1 b1 c s sh) (down_pair a0 b0 c s sh) (down_pair a1 b1 c s sh) s sh
    (omega (arith, up_le a0 b0 c s sh)) (omega (arith, up_le a1 b1 c s sh)) (omega (arith, down_le a0 b0 c s sh)) (omega (arith, down_le a1 b1 c s sh)) near lo hi
    ∙ unfold pri_in in rw (pair-con a0 b0 c s sh, pair-con a1 b1 c s sh)

double-con : (n f o g : ℕ) → gap (weigh_sec n f) (weigh_sec o g) ≡ pos 2 *ℤ gap n o +ℤ pos 1 *ℤ gap f g
unfolding weigh_sec
double-con n f o g =
    let a : n + n + f ≡ 2 * n + 1 * f = omega arith in
    let b : o + o + g ≡ 2 * o + 1 * g = omega arith in
    rw (a, b) (weighs 1 0 n f o g)

pub sec-con : (a0 b0 a1 b1 a2 b2 a3 b3 c s sh : ℕ) → gap (up_sec a0 b0 a1 b1 a2 b2 a3 b3 c s sh) (down_sec a0 b0 a1 b1 a2 b2 a3 b3 c s sh) ≡ sec_plain (pair a0 b0) (pair a1 b1) (pair a2 b2) (pair a3 b3) c (sec_in s sh)
unfolding up_sec down_sec sec_plain weighed sec_in
sec-con a0 b0 a1 b1 a2 b2 a3 b3 c s sh =
    double-con (up_pair a0 b0 c s sh + up_pair a2 b2 c s sh) (up_pair a1 b1 c s sh + up_pair a3 b3 c s sh) (down_pair a0 b0 c s sh + down_pair a2 b2 c s sh) (down_pair a1 b1 c s sh + down_pair a3 b3 c s sh)
    ∙ rw (two-con a0 b0 a2 b2 c s sh, two-con a1 b1 a3 b3 c s sh)

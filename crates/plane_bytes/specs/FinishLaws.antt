-- A sample rounded and clipped in bytes is the sample rounded and clipped with a signed sum.
use Rattle.std.specs.Prelude.{◌≡◌, ℕ, suc, ◌+◌, ◌-◌, ◌*◌, ◌/◌, ◌<◌, ◌≤◌, min, max, Bool, true, false, cond, ℤ, pos, negsuc, ◌+ℤ◌, ◌≢◌, nat_lt, refl}
use Rattle.std.proofs.Common.{sym, ◌∙◌, lt-ltb, le-ltb, ltb-true, ltb-false}
use Rattle.std.proofs.Math.Path.{ap}
use Rattle.std.proofs.Math.Decide.{dec_lt}
use native.Mathlib.Omega.{arith}
use Rattle.std.specs.Int.Signed.{shr_z, mag}
use Rattle.arith_sample.specs.Sample.{moved_of, over_of, finish_of}
use Rattle.arith_sample.specs.SampleLaws.{finish-on, held-nat, moved-neg, moved-pos}
use Rattle.plane_taps.specs.Plain.{pri_plain, sec_plain, low_two, high_two, first_of, last_of}
use Rattle.plane_rows.specs.Rows.{pri_in, sec_in}
use Rattle.plane_bytes.specs.Byte.{up_pri, down_pri, up_sec, down_sec, high_four, low_four, clipped_of, both_of}
use Rattle.plane_byte.specs.Arithmetic.{excess_of}
use Rattle.plane_bytes.specs.ByteBounds.{less-max, less-min}
use Rattle.plane_bytes.specs.ByteLaws.{gap, gap-add, gap_below, gap-above, pair, pri-con, sec-con}

-- ---- moved by the rounded sum

moved_up : (c u d : ℕ) → d ≤ u → moved_of c (gap u d) ≡ pos (c + excess_of u d)
unfolding excess_of
moved_up c u d h = ap (moved_of c) (gap-above u d h) ∙ moved-pos c (pos (u - d)) (le-ltb (u - d) 0 (omega arith))

moved_down : (c u d : ℕ) → u < d → moved_of c (gap u d) ≡ gap c (excess_of d u)
unfolding excess_of
moved_down c u d h = ap (moved_of c) (gap_below u d h) ∙ moved-neg c (negsuc (d - suc u)) refl ∙ go (dec_lt 7 (suc (d - suc u)))
  where
    go : Dec (7 < suc (d - suc u)) → pos c +ℤ shr_z (negsuc (d - suc u) +ℤ pos 7) 16 ≡ gap c ((d - u + 8) / 16)
    go (yes l) =
        let e : (d - u + 8) / 16 ≡ suc ((suc (d - suc u) - 8) / 16) = omega arith in
        rw (lt-ltb 7 (suc (d - suc u)) l, e)
    go (no l) =
        let e : (d - u + 8) / 16 ≡ 0 = omega arith in
        let z : (7 - suc (d - suc u)) / 16 ≡ 0 = omega arith in
        rw (le-ltb 7 (suc (d - suc u)) (omega arith), e, z)

-- ---- clipped

over-pos : (v lo : ℕ) → mag (over_of (pos v) lo) ≡ max v lo
unfolding over_of
over-pos v lo = go (nat_lt v lo) refl
  where
    go : (t : Bool) → nat_lt v lo ≡ t → mag (cond t (pos lo) (pos v)) ≡ max v lo
    go true e = let h : v < lo = ltb-true v lo e in omega arith
    go false e = let h : lo ≤ v = ltb-false v lo e in omega arith

over-gap : (c q lo : ℕ) → mag (over_of (gap c q) lo) ≡ max (c - q) lo
unfolding over_of
over-gap c q lo = go (dec_lt c q)
  where
    go : Dec (c < q) → mag (over_of (gap c q) lo) ≡ max (c - q) lo
    go (yes l) = ap (λ (z : ℤ). mag (over_of z lo)) (gap_below c q l) ∙ omega arith
    go (no l) = ap (λ (z : ℤ). mag (over_of z lo)) (gap-above c q (omega arith)) ∙ over-pos (c - q) lo

finish-is : (c : ℕ) (z : ℤ) (lo hi m : ℕ) → (c ≢ 16384) → mag (over_of (moved_of c z) lo) ≡ m → finish_of c z lo hi ≡ min m hi
finish-is c z lo hi m n e = finish-on c z lo hi n ∙ ap mag (held-nat (moved_of c z) lo hi) ∙ ap (λ (v : ℕ). min v hi) e

min-zero : (n : ℕ) → min 0 n ≡ 0
min-zero n = omega arith

max-left : (a b : ℕ) → b ≤ a → max a b ≡ a
max-left a b h = omega arith

min-left : (a b : ℕ) → a ≤ b → min a b ≡ a
min-left a b h = omega arith

under : (c l hi : ℕ) → c ≤ hi → min (c + l) hi ≡ c + min l (hi - c) - 0
under c l hi h = omega arith

over : (c q lo : ℕ) → lo ≤ c → max (c - q) lo ≡ c + 0 - min q (c - lo)
over c q lo h = omega arith

max-low : (c q lo hi : ℕ) → lo ≤ c → c ≤ hi → max (c - q) lo ≤ hi
max-low c q lo hi a b = omega arith

clip-up : (c l lo hi : ℕ) → lo ≤ c → c ≤ hi → min (max (c + l) lo) hi ≡ c + min l (hi - c) - min 0 (c - lo)
clip-up c l lo hi a b = rw (min-zero (c - lo), max-left (c + l) lo (omega arith)) (under c l hi b)

clip-down : (c q lo hi : ℕ) → lo ≤ c → c ≤ hi → min (max (c - q) lo) hi ≡ c + min 0 (hi - c) - min q (c - lo)
clip-down c q lo hi a b = rw (min-zero (hi - c), min-left (max (c - q) lo) hi (max-low c q lo hi a b)) (over c q lo a)

finish-gap : (c u d lo hi : ℕ) → lo ≤ c → c ≤ hi → c < 256 → clipped_of c u d (hi - c) (c - lo) ≡ finish_of c (gap u d) lo hi
unfolding clipped_of
finish-gap c u d lo hi a b k = go (dec_lt u d)
  where
    go : Dec (u < d) → c + min (excess_of u d) (hi - c) - min (excess_of d u) (c - lo) ≡ finish_of c (gap u d) lo hi
    go (yes l) =
        let e : excess_of u d ≡ 0 = unfold excess_of in omega arith in
        rw e (sym (finish-is c (gap u d) lo hi (max (c - excess_of d u) lo) (λ x. omega (arith, x)) (ap (λ (z : ℤ). mag (over_of z lo)) (moved_down c u d l) ∙ over-gap c (excess_of d u) lo) ∙ clip-down c (excess_of d u) lo hi a b))
    go (no l) =
        let e : excess_of d u ≡ 0 = unfold excess_of in omega arith in
        rw e (sym (finish-is c (gap u d) lo hi (max (c + excess_of u d) lo) (λ x. omega (arith, x)) (ap (λ (z : ℤ). mag (over_of z lo)) (moved_up c u d (omega arith)) ∙ over-pos (c + excess_of u d) lo) ∙ clip-up c (excess_of u d) lo hi a b))

-- ---- the limits

high-two : (a0 b0 a1 b1 c : ℕ) → high_four a0 b0 a1 b1 c ≡ high_two (pair a0 b0) (pair a1 b1) - c
unfolding high_four high_two
high-two a0 b0 a1 b1 c = rw (less-max a0 b0 c, less-max a1 b1 c) (less-max (max a0 b0) (max a1 b1) c)

low-two : (a0 b0 a1 b1 c : ℕ) → low_four a0 b0 a1 b1 c ≡ c - low_two (pair a0 b0) (pair a1 b1)
unfolding low_four low_two
low-two a0 b0 a1 b1 c = rw (less-min a0 b0 c, less-min a1 b1 c) (less-min (min a0 b0) (min a1 b1) c)

high-three : (x y z c : ℕ) → max (x - c) (max (y - c) (z - c)) ≡ max (max x c) (max y z) - c
high-three x y z c = rw (less-max y z c) (less-max x (max y z) c ∙ with-centre (max y z))
  where
    with-centre : (m : ℕ) → max x m - c ≡ max (max x c) m - c
    with-centre m = omega arith

low-three : (x y z c : ℕ) → max (c - x) (max (c - y) (c - z)) ≡ c - min (min x c) (min y z)
low-three x y z c = rw (less-min y z c) (less-min x (min y z) c ∙ with-centre (min y z))
  where
    with-centre : (m : ℕ) → c - min x m ≡ c - min (min x c) m
    with-centre m = omega arith

-- ---- the sample

module _ (a0 b0 a1 b1 a2 b2 a3 b3 a4 b4 a5 b5 c s sh near s2 sh2 : ℕ) (hs : s ≤ 15) (lo : 3 ≤ near) (hi : near ≤ 4) (hc : c < 256) where
  abbrev lowest : ℕ
  lowest = min (min (low_two (pair a0 b0) (pair a1 b1)) c) (min (low_two (pair a2 b2) (pair a3 b3)) (low_two (pair a4 b4) (pair a5 b5)))

  abbrev highest : ℕ
  highest = max (max (high_two (pair a0 b0) (pair a1 b1)) c) (max (high_two (pair a2 b2) (pair a3 b3)) (high_two (pair a4 b4) (pair a5 b5)))

  high_is : max (high_four a0 b0 a1 b1 c) (max (high_four a2 b2 a3 b3 c) (high_four a4 b4 a5 b5 c)) ≡ highest - c
  high_is = rw (high-two a0 b0 a1 b1 c, high-two a2 b2 a3 b3 c, high-two a4 b4 a5 b5 c) (high-three (high_two (pair a0 b0) (pair a1 b1)) (high_two (pair a2 b2) (pair a3 b3)) (high_two (pair a4 b4) (pair a5 b5)) c)

  low-is : max (low_four a0 b0 a1 b1 c) (max (low_four a2 b2 a3 b3 c) (low_four a4 b4 a5 b5 c)) ≡ c - lowest
  low-is = rw (low-two a0 b0 a1 b1 c, low-two a2 b2 a3 b3 c, low-two a4 b4 a5 b5 c) (low-three (low_two (pair a0 b0) (pair a1 b1)) (low_two (pair a2 b2) (pair a3 b3)) (low_two (pair a4 b4) (pair a5 b5)) c)

  sum_is : gap (up_pri a0 b0 a1 b1 c s sh ((4 - near) * 255) + up_sec a2 b2 a3 b3 a4 b4 a5 b5 c s2 sh2) (down_pri a0 b0 a1 b1 c s sh ((4 - near) * 255) + down_sec a2 b2 a3 b3 a4 b4 a5 b5 c s2 sh2) ≡ pri_plain (pair a0 b0) (pair a1 b1) c (pri_in s sh near) +ℤ sec_plain (pair a2 b2) (pair a3 b3) (pair a4 b4) (pair a5 b5) c (sec_in s2 sh2)
  sum_is =
      sym (gap-add (up_pri a0 b0 a1 b1 c s sh ((4 - near) * 255)) (down_pri a0 b0 a1 b1 c s sh ((4 - near) * 255)) (up_sec a2 b2 a3 b3 a4 b4 a5 b5 c s2 sh2) (down_sec a2 b2 a3 b3 a4 b4 a5 b5 c s2 sh2))
      ∙ rw (pri-con a0 b0 a1 b1 c s sh near hs lo hi, sec-con a2 b2 a3 b3 a4 b4 a5 b5 c s2 sh2)

  pub both_is : both_of a0 b0 a1 b1 a2 b2 a3 b3 a4 b4 a5 b5 c s sh ((4 - near) * 255) s2 sh2 ≡ last_of (first_of (pair a0 b0) (pair a1 b1) c (pri_in s sh near)) (pair a2 b2) (pair a3 b3) (pair a4 b4) (pair a5 b5) c (sec_in s2 sh2)
  unfolding both_of last_of first_of
  both_is = rw (high_is, low-is) (finish-gap c _ _ lowest highest (omega arith) (omega arith) hc) ∙ ap (λ (z : ℤ). finish_of c z lowest highest) sum_is

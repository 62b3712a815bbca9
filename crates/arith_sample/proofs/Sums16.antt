-- Small i16 values: what the machine reads back, and its tests, as numbers. Assumes nothing.
use mathlib.Core.Path.{◌≡◌, refl}
use mathlib.Core.Bool.{Bool, true, false, cond}
use Prim.Native.Nat.{ℕ, zero, suc, ◌+◌, ◌*◌, ◌≤◌, ◌<◌}
use native.Mathlib.Omega.{arith}
use native.Mathlib.Nat.{div-le_self}
use borrow.Author.Tests.{ltb-true, ltb-false}
use lib.Dec.{ltb}
use lib.IntN.{ℤ, pos, negsuc, neg_ℤ, nat_abs, ◌+ℤ◌, ◌-ℤ◌, ◌*ℤ◌, +ℤ_idl}
use lib.Signed.{lt_z, shr_z}
use Rattle.cdef_spec.specs.SignedLaws.{size-add, size_scale}
use Rattle.arith_sample.specs.Sample.{moved_of, over_of}
use Rattle.arith_sample.specs.SampleLaws.{moved-neg, moved-pos}
use mir.Syntax.{w16}
use mir.Val.{SFits, to_z, of_z}
use mir.ValLaws.{to_z-of_z, to_z_pos}

pub fits : (z : ℤ) → nat_abs z ≤ 32767 → SFits w16 z
fits (pos n) h = record { sfits = omega arith }
fits (negsuc n) h = record { sfits = omega arith }

pub back : (z : ℤ) → nat_abs z ≤ 32767 → to_z w16 (of_z w16 z) ≡ z
back z h = to_z-of_z w16 z (fits z h)

pub back-nat : (n : ℕ) → n ≤ 32767 → to_z w16 n ≡ pos n
back-nat n h = to_z_pos w16 n (omega arith)

-- a signed test of two naturals
module _ (a b : ℕ) (ha : a ≤ 32767) (hb : b ≤ 32767) where
  pub test : (t : Bool) → lt_z (to_z w16 a) (to_z w16 b) ≡ t → ltb a b ≡ t
  test t e = rw (back-nat a ha, back-nat b hb) at e

  pub below : lt_z (to_z w16 a) (to_z w16 b) ≡ true → a < b
  below e = ltb-true a b (test true e)

  pub above : lt_z (to_z w16 a) (to_z w16 b) ≡ false → b ≤ a
  above e = ltb-false a b (test false e)

pub size-neg : (z : ℤ) → nat_abs (neg_ℤ z) ≡ nat_abs z
size-neg (pos zero) = refl
size-neg (pos (suc n)) = refl
size-neg (negsuc n) = refl

pub size-shr : (z : ℤ) (m : ℕ) → nat_abs (shr_z z m) ≤ nat_abs z
size-shr (pos a) m = div-le_self a m
size-shr (negsuc a) m = omega (arith, div-le_self a m)

-- a sum of two
module _ (a b : ℤ) (h : nat_abs a + nat_abs b ≤ 32767) where
  sum_is : to_z w16 (of_z w16 a) +ℤ to_z w16 (of_z w16 b) ≡ a +ℤ b
  sum_is = rw (back a (omega arith), back b (omega arith))

  sum-small : nat_abs (a +ℤ b) ≤ 32767
  sum-small = omega (arith, size-add a b)

  pub sum_fits : SFits w16 (to_z w16 (of_z w16 a) +ℤ to_z w16 (of_z w16 b))
  sum_fits = rw sum_is (fits (a +ℤ b) sum-small)

  pub sum_back : to_z w16 (of_z w16 (to_z w16 (of_z w16 a) +ℤ to_z w16 (of_z w16 b))) ≡ a +ℤ b
  sum_back = rw sum_is (back (a +ℤ b) sum-small)

-- a value times its weight
module _ (k : ℕ) (a : ℤ) (hk : k ≤ 32767) (ha : nat_abs a ≤ 32767) (h : k * nat_abs a ≤ 32767) where
  weighed-is : to_z w16 k *ℤ to_z w16 (of_z w16 a) ≡ pos k *ℤ a
  weighed-is = rw (back-nat k hk, back a ha)

  pub weighed-fits : SFits w16 (to_z w16 k *ℤ to_z w16 (of_z w16 a))
  weighed-fits = rw weighed-is (fits (pos k *ℤ a) (rw (size_scale k a) h))

  pub weighed-back : to_z w16 (of_z w16 (to_z w16 k *ℤ to_z w16 (of_z w16 a))) ≡ pos k *ℤ a
  weighed-back = rw weighed-is (back (pos k *ℤ a) (rw (size_scale k a) h))

-- `0 - m`
module _ (m : ℕ) (h : m ≤ 32767) where
  minus_is : pos 0 -ℤ to_z w16 m ≡ neg_ℤ (pos m)
  minus_is = rw (back-nat m h) (+ℤ_idl (neg_ℤ (pos m)))

  minus-small : nat_abs (neg_ℤ (pos m)) ≤ 32767
  minus-small = rw (size-neg (pos m)) h

  pub minus-fits : SFits w16 (pos 0 -ℤ to_z w16 m)
  minus-fits = rw minus_is (fits (neg_ℤ (pos m)) minus-small)

  pub minus-back : to_z w16 (of_z w16 (pos 0 -ℤ to_z w16 m)) ≡ neg_ℤ (pos m)
  minus-back = rw minus_is (back (neg_ℤ (pos m)) minus-small)

-- the centre plus a rounded sum; g is 7 or 8
module _ (c g : ℕ) (z : ℤ) (hc : c ≤ 16384) (hg : g ≤ 8) (hz : nat_abs z ≤ 16000) where
  near : nat_abs (z +ℤ pos g) ≤ 16008
  near = omega (arith, size-add z (pos g))

  near-is : to_z w16 (of_z w16 z) +ℤ to_z w16 g ≡ z +ℤ pos g
  near-is = rw (back z (omega arith), back-nat g (omega arith))

  pub near_fits : SFits w16 (to_z w16 (of_z w16 z) +ℤ to_z w16 g)
  near_fits = rw near-is (fits (z +ℤ pos g) (omega (arith, near)))

  shifted : nat_abs (shr_z (z +ℤ pos g) 16) ≤ 16008
  shifted = omega (arith, size-shr (z +ℤ pos g) 16, near)

  moved-is : to_z w16 c +ℤ to_z w16 (of_z w16 (shr_z (to_z w16 (of_z w16 (to_z w16 (of_z w16 z) +ℤ to_z w16 g))) 16)) ≡ pos c +ℤ shr_z (z +ℤ pos g) 16
  moved-is = rw (near-is, back (z +ℤ pos g) (omega (arith, near)), back (shr_z (z +ℤ pos g) 16) (omega (arith, shifted)), back-nat c (omega arith))

  moved-small : nat_abs (pos c +ℤ shr_z (z +ℤ pos g) 16) ≤ 32767
  moved-small = omega (arith, size-add (pos c) (shr_z (z +ℤ pos g) 16), shifted)

  pub moved-fits : SFits w16 (to_z w16 c +ℤ to_z w16 (of_z w16 (shr_z (to_z w16 (of_z w16 (to_z w16 (of_z w16 z) +ℤ to_z w16 g))) 16)))
  moved-fits = rw moved-is (fits (pos c +ℤ shr_z (z +ℤ pos g) 16) moved-small)

  pub moved_back : to_z w16 (of_z w16 (to_z w16 c +ℤ to_z w16 (of_z w16 (shr_z (to_z w16 (of_z w16 (to_z w16 (of_z w16 z) +ℤ to_z w16 g))) 16)))) ≡ pos c +ℤ shr_z (z +ℤ pos g) 16
  moved_back = rw moved-is (back (pos c +ℤ shr_z (z +ℤ pos g) 16) moved-small)

pub size-moved : (c : ℕ) (z : ℤ) → nat_abs (moved_of c z) ≤ c + nat_abs z + 8
size-moved c z = go (lt_z z (pos 0)) refl
  where
    go : (t : Bool) → lt_z z (pos 0) ≡ t → nat_abs (moved_of c z) ≤ c + nat_abs z + 8
    go true e = rw (moved-neg c z e) (omega (arith, size-add (pos c) (shr_z (z +ℤ pos 7) 16), size-shr (z +ℤ pos 7) 16, size-add z (pos 7)))
    go false e = rw (moved-pos c z e) (omega (arith, size-add (pos c) (shr_z (z +ℤ pos 8) 16), size-shr (z +ℤ pos 8) 16, size-add z (pos 8)))

pub size-over : (z : ℤ) (lo m : ℕ) → nat_abs z ≤ m → lo ≤ m → nat_abs (over_of z lo) ≤ m
unfolding over_of
size-over z lo m h k = go (lt_z z (pos lo))
  where
    go : (t : Bool) → nat_abs (cond t (pos lo) z) ≤ m
    go true = k
    go false = h

-- An i16 that a call returned, passed to `add` or `scale`: what they require, and what they return. Assumes nothing.
use mathlib.Core.Path.{◌≡◌, ◌∙◌}
use Prim.Native.Nat.{ℕ, ◌+◌, ◌*◌, ◌≤◌}
use native.Mathlib.Omega.{arith}
use native.Mathlib.Nat.{mul-le-mul}
use lib.IntN.{ℤ, pos, nat_abs, ◌+ℤ◌, ◌*ℤ◌}
use mir.Syntax.{w16}
use mir.Val.{to_z, of_z}
use Rattle.cdef_spec.specs.SignedLaws.{size-add, size_scale}
use Rattle.arith_sample.proofs.Sums16.{back}

-- x is the number a, of magnitude at most m
pub record Is (x a : ℤ) (m : ℕ) : Type 0 where
  pub is : x ≡ a
  pub small : nat_abs a ≤ m

module _ {x a y b : ℤ} {m n : ℕ} (p : Is x a m) (q : Is y b n) (h : m + n ≤ 32767) where
  both : nat_abs a + nat_abs b ≤ m + n
  both = omega (arith, p.small, q.small)

  pub add_ok : nat_abs (to_z w16 (of_z w16 x)) + nat_abs (to_z w16 (of_z w16 y)) ≤ 32767
  add_ok = rw (p.is, q.is, back a (omega (arith, both)), back b (omega (arith, both))) (omega (arith, both))

  pub add_is : {r : ℤ} → r ≡ to_z w16 (of_z w16 x) +ℤ to_z w16 (of_z w16 y) → Is r (a +ℤ b) (m + n)
  add_is e = record {
    is = e ∙ rw (p.is, q.is, back a (omega (arith, both)), back b (omega (arith, both)));
    small = omega (arith, both, size-add a b);
  }

module _ {x a : ℤ} {m k t : ℕ} (p : Is x a m) (hk : k ≤ t) (ht : t ≤ 32767) (hm : m ≤ 32767) (h : t * m ≤ 32767) where
  prod : k * nat_abs a ≤ t * m
  prod = mul-le-mul hk p.small

  back_a : to_z w16 (of_z w16 x) ≡ a
  back_a = rw p.is (back a (omega (arith, p.small)))

  pub scale_ok : (k ≤ 32767) × (nat_abs (to_z w16 (of_z w16 x)) ≤ 32767) × (k * nat_abs (to_z w16 (of_z w16 x)) ≤ 32767)
  scale_ok = (omega arith, rw back_a (omega (arith, p.small)), rw back_a (omega (arith, prod)))

  pub scale-is : {r : ℤ} → r ≡ pos k *ℤ to_z w16 (of_z w16 x) → Is r (pos k *ℤ a) (t * m)
  scale-is e = record { is = e ∙ rw back_a; small = rw (size_scale k a) prod }

-- what is returned or stored of it
pub back_is : {x a : ℤ} {m : ℕ} → Is x a m → m ≤ 32767 → to_z w16 (of_z w16 x) ≡ a
back_is {x} {a} p h = rw p.is (back a (omega (arith, p.small)))

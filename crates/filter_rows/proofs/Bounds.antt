-- Bounds of the sums.
use Rattle.std.proofs.Common.{◌≡◌, ℕ, ◌+◌, ◌*◌, ◌≤◌, Bool, true, false, cond, eqb, List, get_or, ℤ, pos, ◌+ℤ◌, ◌*ℤ◌, nat_abs, mul-le-mul, arith, w16, to_z, of_z}
use Rattle.cdef_spec.specs.SignedLaws.{size-add, size_scale}
use Rattle.arith_sample.specs.Sample.{con_of}
use Rattle.arith_sample.specs.SampleLaws.{size-con}
use Rattle.filter_rows.specs.Place.{tap_on, tap_back}
use Rattle.arith_sample.specs.Bounds.{Held}
use Rattle.arith_sample.proofs.Joins.{Is, add_ok, add_is, back_is}
use Rattle.filter_rows.specs.Sums.{InRange, pair_at, high_pair, pri_at, side_at, sec_at, low_at, high_at}
use Rattle.filter_rows.specs.SumsLaws.{high-pair-le}
use Rattle.filter_rows.specs.Pairs.{con_tap, pair_sum, weighed, pri_sum, sec_sum, alone_sum}
use Rattle.filter_limits.specs.declared.Pair.{Pair}
use Rattle.filter_limits.specs.declared.Pairs.{Pairs}
use Rattle.filter_rows.specs.declared.Taps.{Taps}
use Rattle.filter_rows.specs.declared.Strength.{Strength}

pub size-pair : (w : List ℕ) (k o c s sh : ℕ) → s ≤ 240 → nat_abs (pair_at w k o c s sh) ≤ 480
unfolding pair_at
size-pair w k o c s sh h = omega (arith, size-add (con_of (tap_on w k o c) c s sh) (con_of (tap_back w k o c) c s sh), size-con (tap_on w k o c) c s sh, size-con (tap_back w k o c) c s sh)

-- a record, so that the number can be inferred
record Small (a : ℤ) (m : ℕ) : Type 0 where
  small : nat_abs a ≤ m

scaled : {k m : ℕ} {a : ℤ} → k ≤ 4 → Small a m → Small (pos k *ℤ a) (4 * m)
scaled {k} {m} {a} hk h = record { small = rw (size_scale k a) (mul-le-mul hk h.small) }

two : {a b : ℤ} {m n : ℕ} → Small a m → Small b n → Small (a +ℤ b) (m + n)
two {a} {b} h g = record { small = omega (arith, size-add a b, h.small, g.small) }

module _ (w : List ℕ) (k : ℕ) (t : Taps) (f : Strength) (m : InRange f) where
  at : (o : ℕ) → Small (pair_at w k o (get_or w k 0) f.s f.sh) 480
  at o = record { small = size-pair w k o (get_or w k 0) f.s f.sh m.s }

  pub size-pri : nat_abs (pri_at w k t f) ≤ 3840
  unfolding pri_at
  size-pri = (two (scaled m.w0 (at t.p0)) (scaled m.w1 (at t.p1))).small

  size-side : (q r v : ℕ) → v ≤ 4 → nat_abs (side_at w k q r v f.s f.sh) ≤ 3840
  unfolding side_at
  size-side q r v h = (scaled h (two (at q) (at r))).small

  near : nat_abs (side_at w k t.q0 t.r0 f.w0 f.s f.sh) ≤ 3840
  near = size-side t.q0 t.r0 f.w0 m.w0

  far : nat_abs (side_at w k t.q1 t.r1 f.w1 f.s f.sh) ≤ 3840
  far = size-side t.q1 t.r1 f.w1 m.w1

  pub size-sec : nat_abs (sec_at w k t f) ≤ 7680
  unfolding sec_at
  size-sec = omega (arith, size-add (side_at w k t.q0 t.r0 f.w0 f.s f.sh) (side_at w k t.q1 t.r1 f.w1 f.s f.sh), near, far)

  -- the two parts, as passed to `add`, and what it returns
  module _ {x y : ℤ} (ex : x ≡ side_at w k t.q0 t.r0 f.w0 f.s f.sh) (ey : y ≡ side_at w k t.q1 t.r1 f.w1 f.s f.sh) where
    pub sec-ok : nat_abs (to_z w16 (of_z w16 x)) + nat_abs (to_z w16 (of_z w16 y)) ≤ 32767
    sec-ok = add_ok {m = 3840} {n = 3840} (record { is = ex; small = near }) (record { is = ey; small = far }) (omega arith)

    pub sec-is : {r : ℤ} → r ≡ to_z w16 (of_z w16 x) +ℤ to_z w16 (of_z w16 y) → to_z w16 (of_z w16 r) ≡ sec_at w k t f
    unfolding sec_at
    sec-is e = back_is (add_is {m = 3840} {n = 3840} (record { is = ex; small = near }) (record { is = ey; small = far }) (omega arith) e) (omega arith)

module _ (w : List ℕ) (k : ℕ) (t : Taps) (h : Held w) where
  pub low-le : low_at w k t ≤ 16384
  unfolding low_at
  low-le = omega (arith, h.all k)

  high : (o : ℕ) → high_pair w k o (get_or w k 0) ≤ 16384
  high o = high-pair-le w k o (get_or w k 0) h (h.all k)

  pub high_le : high_at w k t ≤ 16384
  unfolding high_at
  high_le = omega (arith, h.all k, high t.p0, high t.p1, high t.q0, high t.q1, high t.r0, high t.r1)

-- the sums of taps as the window holds them
pub size-tap : (t c s sh : ℕ) → nat_abs (con_tap t c s sh) ≤ s
unfolding con_tap
size-tap t c s sh = go (eqb t 16384)
  where
    go : (b : Bool) → nat_abs (cond b (pos 0) (con_of t c s sh)) ≤ s
    go true = omega arith
    go false = size-con t c s sh

pub size-pair-sum : (p : Pair) (c s sh : ℕ) → s ≤ 240 → nat_abs (pair_sum p c s sh) ≤ 480
unfolding pair_sum
size-pair-sum p c s sh h = omega (arith, size-add (con_tap p.on c s sh) (con_tap p.back c s sh), size-tap p.on c s sh, size-tap p.back c s sh)

module _ (e : Pairs) (c : ℕ) (f : Strength) (m : InRange f) where
  of : (p : Pair) → Small (pair_sum p c f.s f.sh) 480
  of p = record { small = size-pair-sum p c f.s f.sh m.s }

  pub size-pri-sum : nat_abs (pri_sum e c f) ≤ 3840
  unfolding pri_sum weighed
  size-pri-sum = (two (scaled m.w0 (of e.p0)) (scaled m.w1 (of e.p1))).small

  pub size-sec-sum : nat_abs (sec_sum e c f) ≤ 7680
  unfolding sec_sum weighed
  size-sec-sum = (two (scaled m.w0 (two (of e.q0) (of e.r0))) (scaled m.w1 (two (of e.q1) (of e.r1)))).small

  pub size-alone : (b : Bool) → nat_abs (alone_sum b e c f) ≤ 7680
  unfolding alone_sum
  size-alone true = size-sec-sum
  size-alone false = omega (arith, size-pri-sum)

-- a number that is passed to a call
pub small-back : {x a : ℤ} {m n : ℕ} → Is x a m → m ≤ n → n ≤ 32767 → nat_abs (to_z w16 (of_z w16 x)) ≤ n
small-back p h k = rw (back_is p (omega arith)) (omega (arith, p.small))

-- Laws of one tap and of the rounding and clipping of a sample.
use Rattle.std.specs.Prelude.{◌≡◌, refl, ℕ, zero, suc, ◌+◌, ◌-◌, ◌≤◌, ◌<◌, min, Bool, true, false, cond, ltb, ℤ, pos, neg_ℤ, ◌+ℤ◌, nat_abs, negsuc}
use Rattle.std.proofs.Common.{ap, ◌∙◌, arith, lt-ltb, le-ltb, ltb-true, ltb-false, eq-eqb, ne_eqb}
use Rattle.std.specs.Int.Signed.{lt_z, shr_z, mag}
use Rattle.arith_sample.specs.Sample.{or_centre, size_of, con_of, round_of, moved_of, over_of, under_of, finish_of, free_of}

pub centre-mark : (t c : ℕ) → t ≡ 16384 → or_centre t c ≡ c
unfolding or_centre
centre-mark t c e = rw (eq-eqb t 16384 e)

pub centre-tap : (t c : ℕ) → (t ≡ 16384 → ⊥) → (c ≡ 16384 → ⊥) → or_centre t c ≡ t
unfolding or_centre
centre-tap t c e f = rw (ne_eqb t 16384 e, ne_eqb c 16384 f)

pub centre-marked : (t c : ℕ) → (t ≡ 16384 → ⊥) → c ≡ 16384 → or_centre t c ≡ c
unfolding or_centre
centre-marked t c e f = rw (ne_eqb t 16384 e, eq-eqb c 16384 f)

pub con-below : (p c s sh : ℕ) → p < c → con_of p c s sh ≡ neg_ℤ (pos (size_of ((p - c) + (c - p)) s sh))
unfolding con_of
con-below p c s sh h =
    let e : (p - c) + (c - p) ≡ c - p = omega arith in
    rw (lt-ltb p c h, e)

pub con-above : (p c s sh : ℕ) → c ≤ p → con_of p c s sh ≡ pos (size_of ((p - c) + (c - p)) s sh)
unfolding con_of
con-above p c s sh h =
    let e : (p - c) + (c - p) ≡ p - c = omega arith in
    rw (le-ltb p c h, e)

pub size_of-le : (a s sh : ℕ) → size_of a s sh ≤ s
unfolding size_of
size_of-le a s sh = omega arith

neg-size : (n s : ℕ) → n ≤ s → nat_abs (neg_ℤ (pos n)) ≤ s
neg-size zero s h = h
neg-size (suc n) s h = h

pub size-con : (p c s sh : ℕ) → nat_abs (con_of p c s sh) ≤ s
unfolding con_of
size-con p c s sh = go (ltb p c) (neg-size (size_of (c - p) s sh) s (size_of-le (c - p) s sh))
  where
    go : (t : Bool) → nat_abs (neg_ℤ (pos (size_of (c - p) s sh))) ≤ s → nat_abs (cond t (neg_ℤ (pos (size_of (c - p) s sh))) (pos (size_of (p - c) s sh))) ≤ s
    go true h = h
    go false h = size_of-le (p - c) s sh

pub over-lo : (z : ℤ) (lo : ℕ) → lt_z z (pos lo) ≡ true → over_of z lo ≡ pos lo
unfolding over_of
over-lo z lo e = rw e

pub over-in : (z : ℤ) (lo : ℕ) → lt_z z (pos lo) ≡ false → over_of z lo ≡ z
unfolding over_of
over-in z lo e = rw e

pub under-hi : (z : ℤ) (hi : ℕ) → lt_z (pos hi) z ≡ true → under_of z hi ≡ pos hi
unfolding under_of
under-hi z hi e = rw e

pub under-in : (z : ℤ) (hi : ℕ) → lt_z (pos hi) z ≡ false → under_of z hi ≡ z
unfolding under_of
under-in z hi e = rw e

pub moved-neg : (c : ℕ) (z : ℤ) → lt_z z (pos 0) ≡ true → moved_of c z ≡ pos c +ℤ shr_z (z +ℤ pos 7) 16
unfolding moved_of round_of
moved-neg c z e = rw e

pub moved-pos : (c : ℕ) (z : ℤ) → lt_z z (pos 0) ≡ false → moved_of c z ≡ pos c +ℤ shr_z (z +ℤ pos 8) 16
unfolding moved_of round_of
moved-pos c z e = rw e

-- a value raised to at least a natural number is one, and stays one under an upper bound
over-nat : (z : ℤ) (lo : ℕ) → over_of z lo ≡ pos (mag (over_of z lo))
unfolding over_of
over-nat (pos n) lo = go (ltb n lo)
  where
    go : (t : Bool) → cond t (pos lo) (pos n) ≡ pos (mag (cond t (pos lo) (pos n)))
    go true = refl
    go false = refl
over-nat (negsuc n) lo = refl

under-nat : (n hi : ℕ) → under_of (pos n) hi ≡ pos (min n hi)
unfolding under_of
under-nat n hi = go (ltb hi n) refl
  where
    go : (t : Bool) → ltb hi n ≡ t → cond t (pos hi) (pos n) ≡ pos (min n hi)
    go true e = let h : hi < n = ltb-true hi n e in ap pos (omega arith)
    go false e = let h : n ≤ hi = ltb-false hi n e in ap pos (omega arith)

-- the clipped value as a natural number
pub held-nat : (z : ℤ) (lo hi : ℕ) → under_of (over_of z lo) hi ≡ pos (min (mag (over_of z lo)) hi)
held-nat z lo hi = ap (λ (v : ℤ). under_of v hi) (over-nat z lo) ∙ under-nat (mag (over_of z lo)) hi

pub finish-mark : (c : ℕ) (z : ℤ) (lo hi : ℕ) → c ≡ 16384 → finish_of c z lo hi ≡ c
unfolding finish_of
finish-mark c z lo hi e = rw (eq-eqb c 16384 e)

pub finish-on : (c : ℕ) (z : ℤ) (lo hi : ℕ) → (c ≡ 16384 → ⊥) → finish_of c z lo hi ≡ mag (under_of (over_of (moved_of c z) lo) hi)
unfolding finish_of
finish-on c z lo hi e = rw (ne_eqb c 16384 e)

pub free-mark : (c : ℕ) (z : ℤ) → c ≡ 16384 → free_of c z ≡ c
unfolding free_of
free-mark c z e = rw (eq-eqb c 16384 e)

pub free_on : (c : ℕ) (z : ℤ) → (c ≡ 16384 → ⊥) → free_of c z ≡ mag (over_of (moved_of c z) 0)
unfolding free_of
free_on c z e = rw (ne_eqb c 16384 e)

-- a value raised to at least a natural number is one
pub over-is-nat : (z : ℤ) (lo : ℕ) → over_of z lo ≡ pos (mag (over_of z lo))
over-is-nat z lo = over-nat z lo

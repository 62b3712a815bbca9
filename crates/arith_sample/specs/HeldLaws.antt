-- A difference held to what its size leaves of the strength is the constrained difference.
use Rattle.std.specs.Prelude.{◌≡◌, refl, Bool, true, false, cond, ℕ, zero, suc, ◌+◌, ◌-◌, ◌/◌, ◌^◌, ◌≤◌, ◌<◌, min, ltb, ℤ, pos, negsuc, neg_ℤ, nat_abs, ◌-ℤ◌}
use Rattle.std.proofs.Common.{sym, ap, ◌∙◌, arith, lt-ltb, le-ltb, ltb-true, ltb-false}
use Rattle.std.proofs.Math.Decide.{dec_lt}
use Rattle.std.specs.Int.Signed.{lt_z}
use Rattle.cdef_spec.specs.SignedLaws.{size-neg}
use Rattle.arith_sample.specs.Sample.{size_of, con_of, under_of, held_of}
use Rattle.arith_sample.specs.SampleLaws.{con-below, con-above}

-- a difference by its sign
pub diff-below : (p c : ℕ) → p < c → pos p -ℤ pos c ≡ negsuc (c - suc p)
diff-below p zero h = absurd (omega arith)
diff-below p (suc c) h = rw (lt-ltb p (suc c) h)

pub diff-above : (p c : ℕ) → c ≤ p → pos p -ℤ pos c ≡ pos (p - c)
diff-above p zero h = ap pos (omega arith)
diff-above p (suc c) h = rw (le-ltb p (suc c) h)

held-above : (a l : ℕ) → held_of (pos a) l ≡ pos (min a l)
unfolding held_of under_of
held-above a zero = go (ltb 0 a) refl
  where
    go : (b : Bool) → ltb 0 a ≡ b → cond (lt_z (cond b (pos 0) (pos a)) (pos 0)) (pos 0) (cond b (pos 0) (pos a)) ≡ pos (min a 0)
    go true e = ap pos (omega arith)
    go false e = let h : a ≤ 0 = ltb-false 0 a e in rw (le-ltb a 0 (omega arith)) (ap pos (omega arith))
held-above a (suc l) = go (ltb (suc l) a) refl
  where
    go : (b : Bool) → ltb (suc l) a ≡ b → cond (lt_z (cond b (pos (suc l)) (pos a)) (negsuc l)) (negsuc l) (cond b (pos (suc l)) (pos a)) ≡ pos (min a (suc l))
    go true e = let h : suc l < a = ltb-true (suc l) a e in ap pos (omega arith)
    go false e = let h : a ≤ suc l = ltb-false (suc l) a e in ap pos (omega arith)

held_below : (a l : ℕ) → held_of (negsuc a) l ≡ neg_ℤ (pos (min (suc a) l))
unfolding held_of under_of
held_below a zero = let k : min (suc a) 0 ≡ 0 = omega arith in rw k
held_below a (suc l) = go (ltb l a) refl
  where
    go : (b : Bool) → ltb l a ≡ b → cond b (negsuc l) (negsuc a) ≡ neg_ℤ (pos (min (suc a) (suc l)))
    go true e =
        let h : l < a = ltb-true l a e in
        let k : min (suc a) (suc l) ≡ suc l = omega arith in
        rw k
    go false e =
        let h : a ≤ l = ltb-false l a e in
        let k : min (suc a) (suc l) ≡ suc a = omega arith in
        rw k

-- holding the difference to what is left of the strength constrains it
pub held-con : (t c s sh : ℕ) → held_of (pos t -ℤ pos c) (s - nat_abs (pos t -ℤ pos c) / 2 ^ sh) ≡ con_of t c s sh
unfolding size_of
held-con t c s sh = go (dec_lt t c)
  where
    go : Dec (t < c) → held_of (pos t -ℤ pos c) (s - nat_abs (pos t -ℤ pos c) / 2 ^ sh) ≡ con_of t c s sh
    go (yes l) =
        let e : (t - c) + (c - t) ≡ suc (c - suc t) = omega arith in
        rw (diff-below t c l) (held_below (c - suc t) (s - suc (c - suc t) / 2 ^ sh) ∙ sym (con-below t c s sh l ∙ rw e))
    go (no l) =
        let g : c ≤ t = omega arith in
        let e : (t - c) + (c - t) ≡ t - c = omega arith in
        rw (diff-above t c g) (held-above (t - c) (s - (t - c) / 2 ^ sh) ∙ sym (con-above t c s sh g ∙ rw e))

pub size-under : (z : ℤ) (l : ℕ) → nat_abs z ≤ 32767 → l ≤ 32767 → nat_abs (under_of z l) ≤ 32767
unfolding under_of
size-under z l h k = go (lt_z (pos l) z)
  where
    go : (t : Bool) → nat_abs (cond t (pos l) z) ≤ 32767
    go true = k
    go false = h

pub size-held : (z : ℤ) (l : ℕ) → nat_abs z ≤ 32767 → l ≤ 32767 → nat_abs (held_of z l) ≤ 32767
unfolding held_of
size-held z l h k = go (lt_z (under_of z l) (neg_ℤ (pos l)))
  where
    go : (t : Bool) → nat_abs (cond t (neg_ℤ (pos l)) (under_of z l)) ≤ 32767
    go true = omega (arith, size-neg (pos l))
    go false = size-under z l h k

-- One tap: the code's constrained difference, with its shift capped at 15 and a marked tap replaced by the centre, is what the standard adds.
use Rattle.std.specs.Prelude.{◌≡◌, cond, eqb, ℤ, negsuc, ◌-ℤ◌, ◌*ℤ◌}
use Rattle.std.proofs.Common.{sym, ap, ◌∙◌, lt_of_lt_of_le, arith, eq-eqb, ne_eqb, pow_mono}
use Prim.Native.Nat.{ℕ, suc, ◌+◌, ◌-◌, ◌/◌, ◌^◌, ◌≤◌, ◌<◌, min, max}
use Rattle.std.proofs.Math.Decide.{dec_le, dec_lt, ℕ_discrete}
use Rattle.std.proofs.Math.Nat.{div-eq_of_lt}
use Rattle.std.proofs.Math.IntN.{pos, *ℤ-zero}
use Rattle.cdef_spec.specs.Standard.{floor_log2, with_sign, constrain, missing, sample}
use Rattle.cdef_spec.specs.Document01.{unmarked}
use Rattle.cdef_spec.specs.CodeForm.{constrain_mag}
use Rattle.cdef_spec.specs.ConstrainLaws.{constrain-is}
use Rattle.cdef_spec.specs.LeafLaws.{constrain_mag-on, constrain_mag-off}
use Rattle.cdef_spec.proofs.TrialLaws.{adds, higher, lower}
use Rattle.arith_sample.specs.Sample.{or_centre, size_of, con_of}
use Rattle.arith_sample.specs.SampleLaws.{con-below, con-above, centre-mark, centre-tap}
use Rattle.arith_sample.specs.HeldLaws.{diff-below, diff-above}
use Rattle.filter_kernel.specs.Kernel.{shift_of}

-- a shift past 15 leaves nothing of a difference below 2 ^ 15
capped : (a e : ℕ) → a < 2 ^ 15 → a / 2 ^ min e 15 ≡ a / 2 ^ e
capped a e h = go (dec_le e 15)
  where
    go : Dec (e ≤ 15) → a / 2 ^ min e 15 ≡ a / 2 ^ e
    go (yes l) = let k : min e 15 ≡ e = omega arith in rw k
    go (no l) =
        let k : min e 15 ≡ 15 = omega arith in
        let q : 15 ≤ e = omega arith in
        let g : 2 ^ 15 ≤ 2 ^ e = pow_mono q in
        rw k (div-eq_of_lt h ∙ sym (div-eq_of_lt (lt_of_lt_of_le h g)))

size-capped : (a s d : ℕ) → a < 2 ^ 15 → size_of a s (shift_of s d) ≡ constrain_mag a s d
unfolding size_of shift_of
size-capped a s d h = go (ℕ_discrete s 0)
  where
    go : Dec (s ≡ 0) → min a (s - a / 2 ^ min (d - floor_log2 s) 15) ≡ constrain_mag a s d
    go (yes e) = rw (e, constrain_mag-off a d) (omega arith)
    go (no n) = rw (constrain_mag-on a s d n, capped a (d - floor_log2 s) h)

con-is : (p c s d : ℕ) → p ≤ 16384 → c ≤ 16384 → con_of p c s (shift_of s d) ≡ constrain (pos p -ℤ pos c) s d
unfolding with_sign
con-is p c s d hp hc = go (dec_lt p c)
  where
    go : Dec (p < c) → con_of p c s (shift_of s d) ≡ constrain (pos p -ℤ pos c) s d
    go (yes l) =
        let e : (p - c) + (c - p) ≡ suc (c - suc p) = omega arith in
        con-below p c s (shift_of s d) l ∙ rw (e, size-capped (suc (c - suc p)) s d (omega arith)) (sym (ap (λ (z : ℤ). constrain z s d) (diff-below p c l) ∙ constrain-is (negsuc (c - suc p)) s d))
    go (no l) =
        let g : c ≤ p = omega arith in
        let e : (p - c) + (c - p) ≡ p - c = omega arith in
        con-above p c s (shift_of s d) g ∙ rw (e, size-capped (p - c) s d (omega arith)) (sym (ap (λ (z : ℤ). constrain z s d) (diff-above p c g) ∙ constrain-is (pos (p - c)) s d))

-- the centre's own difference
con-same : (c s sh : ℕ) → con_of c c s sh ≡ pos 0
unfolding size_of
con-same c s sh =
    con-above c c s sh (omega arith) ∙ ap pos (let e : (c - c) + (c - c) ≡ 0 = omega arith in rw e (omega arith))

-- a tap t around a centre c that is not marked
module _ (t c : ℕ) (ht : t ≤ 16384) (hc : c ≤ 16384) (n : c ≡ 16384 → ⊥) where
  pub adds-is : (w s d : ℕ) → adds c d w s (unmarked t) ≡ pos w *ℤ con_of (or_centre t c) c s (shift_of s d)
  unfolding adds unmarked
  adds-is w s d = go (ℕ_discrete t 16384)
    where
      go : Dec (t ≡ 16384) → adds c d w s (cond (eqb t 16384) missing (sample t)) ≡ pos w *ℤ con_of (or_centre t c) c s (shift_of s d)
      go (yes e) = rw (eq-eqb t 16384 e, centre-mark t c e, con-same c s (shift_of s d)) (sym (*ℤ-zero (pos w)))
      go (no k) = rw (ne_eqb t 16384 k, centre-tap t c k n, con-is t c s d ht hc)

  pub higher-is : (m : ℕ) → c ≤ m → higher (unmarked t) m ≡ max m (or_centre t c)
  unfolding unmarked
  higher-is m h = go (ℕ_discrete t 16384)
    where
      go : Dec (t ≡ 16384) → higher (cond (eqb t 16384) missing (sample t)) m ≡ max m (or_centre t c)
      go (yes e) = rw (eq-eqb t 16384 e, centre-mark t c e) (omega arith)
      go (no k) = rw (ne_eqb t 16384 k, centre-tap t c k n)

  pub lower-is : (m : ℕ) → m ≤ c → lower (unmarked t) m ≡ min m (or_centre t c)
  unfolding unmarked
  lower-is m h = go (ℕ_discrete t 16384)
    where
      go : Dec (t ≡ 16384) → lower (cond (eqb t 16384) missing (sample t)) m ≡ min m (or_centre t c)
      go (yes e) = rw (eq-eqb t 16384 e, centre-mark t c e) (omega arith)
      go (no k) = rw (ne_eqb t 16384 k, centre-tap t c k n)

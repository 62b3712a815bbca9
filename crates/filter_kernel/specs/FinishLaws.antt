-- The last step of a sample: the code's bounds equal the standard's clip, and its rounding the standard's.
use Rattle.std.specs.Prelude.{◌≡◌, refl, Bool, true, false, cond, List, [], ◌∷◌, ℕ, zero, suc, ◌-◌, ◌≤◌, min, ltb, ℤ, pos, negsuc, neg_ℤ, ◌+ℤ◌, ◌-ℤ◌}
use Rattle.std.proofs.Common.{sym, ap, ◌∙◌, arith, ltb-true, ltb-false, le-ltb}
use Rattle.std.proofs.Math.IntN.{+ℤ_assoc, +ℤ_comm, *ℤ-zero}
use Rattle.std.specs.Int.Signed.{lt_z, shr_z, mag}
use Rattle.cdef_spec.specs.Standard.{clip3, rounded, Tap, missing, sample}
use Rattle.cdef_spec.proofs.FilterLaws.{constrain-off}
use Rattle.cdef_spec.proofs.TapLaws.{Visit}
use Rattle.cdef_spec.proofs.TrialLaws.{adds, total}
use Rattle.arith_sample.specs.Sample.{round_of, moved_of, over_of, finish_of, free_of}
use Rattle.arith_sample.specs.SampleLaws.{held-nat, finish-on, free_on}

-- 8 + z - g is z + (8 - g)
turn : (z : ℤ) (g : ℕ) → g ≤ 8 → (pos 8 +ℤ z) -ℤ pos g ≡ z +ℤ pos (8 - g)
turn z zero h = ap (λ (x : ℤ). x -ℤ pos 0) (+ℤ_comm (pos 8) z) ∙ +ℤ_assoc z (pos 8) (neg_ℤ (pos 0))
turn z (suc g) h =
    ap (λ (x : ℤ). x -ℤ pos (suc g)) (+ℤ_comm (pos 8) z) ∙ +ℤ_assoc z (pos 8) (negsuc g)
    ∙ ap (λ (x : ℤ). z +ℤ x) (rw (le-ltb 8 (suc g) h))

round_is : (z : ℤ) → round_of z ≡ rounded z
unfolding round_of rounded
round_is z = go (lt_z z (pos 0))
  where
    go : (t : Bool) → shr_z (z +ℤ cond t (pos 7) (pos 8)) 16 ≡ shr_z (pos 8 +ℤ z -ℤ cond t (pos 1) (pos 0)) 16
    go true = ap (λ (x : ℤ). shr_z x 16) (sym (turn z 1 (omega arith)))
    go false = ap (λ (x : ℤ). shr_z x 16) (sym (turn z 0 (omega arith)))

pub moved-is : (c : ℕ) (z : ℤ) → moved_of c z ≡ pos c +ℤ rounded z
unfolding moved_of
moved-is c z = ap (λ (x : ℤ). pos c +ℤ x) (round_is z)

held-clip : (z : ℤ) (lo hi : ℕ) → lo ≤ hi → min (mag (over_of z lo)) hi ≡ clip3 lo hi z
unfolding over_of clip3
held-clip (negsuc n) lo hi h = omega arith
held-clip (pos n) lo hi h = go (ltb n lo) (ltb hi n) refl refl
  where
    go : (s t : Bool) → ltb n lo ≡ s → ltb hi n ≡ t → min (mag (cond s (pos lo) (pos n))) hi ≡ cond s lo (cond t hi n)
    go true t e f = omega arith
    go false true e f = omega (arith, ltb-true hi n f)
    go false false e f = omega (arith, ltb-false hi n f)

pub finish-is : (c : ℕ) (z : ℤ) (lo hi : ℕ) → (c ≡ 16384 → ⊥) → lo ≤ hi → finish_of c z lo hi ≡ clip3 lo hi (pos c +ℤ rounded z)
finish-is c z lo hi n h =
    finish-on c z lo hi n ∙ ap mag (held-nat (moved_of c z) lo hi) ∙ held-clip (moved_of c z) lo hi h ∙ ap (clip3 lo hi) (moved-is c z)

-- where the centre plus the rounded sum is a natural number, no bound is needed
pub free-is : (c : ℕ) (z : ℤ) (v : ℕ) → (c ≡ 16384 → ⊥) → pos v ≡ pos c +ℤ rounded z → free_of c z ≡ v
unfolding over_of
free-is c z v n e = free_on c z n ∙ rw (moved-is c z, ← e) (rw (le-ltb v 0 (omega arith)))

-- ---- taps of strength 0 add nothing

pub data Idle : List Visit → Type 0 where
  none : Idle []
  more : {t : Visit} {ts : List Visit} → t.strength ≡ 0 → Idle ts → Idle (t ∷ ts)

adds_none : (v d w : ℕ) (t : Tap) → adds v d w 0 t ≡ pos 0
unfolding adds
adds_none v d w missing = refl
adds_none v d w (sample p) = rw (constrain-off (pos p -ℤ pos v) d) (*ℤ-zero (pos w))

pub total-idle : (v d : ℕ) {ts : List Visit} → Idle ts → total v d ts ≡ pos 0
unfolding total
total-idle v d none = refl
total-idle v d (more {t = t} e m) = rw (e, adds_none v d t.weight t.tap, total-idle v d m)

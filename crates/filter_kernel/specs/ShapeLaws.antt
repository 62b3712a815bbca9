-- Forms of the sums, and ranges of strengths and samples.
use Rattle.std.specs.Prelude.{◌≡◌, refl, [], ℕ, zero, suc, ◌+◌, ◌-◌, ◌≤◌, ◌<◌, max, get_or, ℤ, pos, ◌+ℤ◌, ◌*ℤ◌}
use Rattle.std.proofs.Common.{sym, arith}
use Rattle.std.proofs.Math.Decide.{ℕ_discrete}
use Rattle.cdef_spec.specs.Standard.{cdef_pri_taps}
use Rattle.filter_rows.specs.Sums.{InRange}
use Rattle.filter_kernel.specs.Kernel.{shift_of, pri_of, sec_of}
use Rattle.filter_kernel.specs.ScaleLaws.{scale-add, four, eight}

-- the sums' two forms
pub pri-shape : (v w : ℕ) (a b c d : ℤ) → pos v *ℤ (a +ℤ b) +ℤ pos w *ℤ (c +ℤ d) ≡ pos v *ℤ a +ℤ (pos v *ℤ b +ℤ (pos w *ℤ c +ℤ (pos w *ℤ d +ℤ pos 0)))
pri-shape v w a b c d = rw (scale-add v a b, scale-add w c d) (sym (four (pos v *ℤ a) (pos v *ℤ b) (pos w *ℤ c) (pos w *ℤ d)))

pub sec-shape : (v w : ℕ) (a b c d e f g h : ℤ) → pos v *ℤ ((a +ℤ b) +ℤ (e +ℤ f)) +ℤ pos w *ℤ ((c +ℤ d) +ℤ (g +ℤ h))
    ≡ pos v *ℤ a +ℤ (pos v *ℤ b +ℤ (pos w *ℤ c +ℤ (pos w *ℤ d +ℤ (pos v *ℤ e +ℤ (pos v *ℤ f +ℤ (pos w *ℤ g +ℤ (pos w *ℤ h +ℤ pos 0)))))))
sec-shape v w a b c d e f g h =
    rw (scale-add v (a +ℤ b) (e +ℤ f), scale-add v a b, scale-add v e f, scale-add w (c +ℤ d) (g +ℤ h), scale-add w c d, scale-add w g h)
    (sym (eight (pos v *ℤ a) (pos v *ℤ b) (pos w *ℤ c) (pos w *ℤ d) (pos v *ℤ e) (pos v *ℤ f) (pos w *ℤ g) (pos w *ℤ h)))

pub weights : (o : ℕ) → o < 2 → (get_or (get_or cdef_pri_taps o []) 0 0 ≡ 4 - o) × (get_or (get_or cdef_pri_taps o []) 1 0 ≡ 2 + o)
unfolding cdef_pri_taps
weights zero h = (refl, refl)
weights (suc zero) h = (refl, refl)
weights (suc (suc o)) h = absurd (omega arith)

pub low-lt : (t : ℕ) → t ≤ 16384 → (t ≡ 16384 → ⊥) → t < 16384
low-lt t h k = go (ℕ_discrete t 16384)
  where
    go : Dec (t ≡ 16384) → t < 16384
    go (yes e) = absurd (k e)
    go (no g) = omega arith

pub max-below : {a b : ℕ} → a < 16384 → b < 16384 → max a b < 16384
max-below h k = omega arith

-- strengths up to 240 lie in range
pub pri-in : (s d depth : ℕ) → s ≤ 240 → InRange (pri_of s d depth)
unfolding pri_of shift_of
pri-in s d depth h = record { s = h; sh = omega arith; w0 = omega arith; w1 = omega arith }

pub sec-in : (s d : ℕ) → s ≤ 240 → InRange (sec_of s d)
unfolding sec_of shift_of
sec-in s d h = record { s = h; sh = omega arith; w0 = omega arith; w1 = omega arith }

-- Laws of the trials' filter parameters.
use Rattle.std.specs.Prelude.{◌≡◌, ℕ, ◌-◌, ◌≤◌, ◌<◌, max}
use Rattle.std.proofs.Common.{arith}
use Rattle.cdef_spec.specs.declared.TrialWay.{TrialWay}
use Rattle.cdef_spec.specs.declared.TrialWay.TheVariants.{Luma, Chroma}
use Rattle.cdef_spec.specs.declared.WorkingDamping.{WorkingDamping}
use Rattle.cdef_spec.specs.Words.{◌<<◌}
use Rattle.filter_rows.specs.declared.Taps.{Taps}
use Rattle.filter_rows.specs.declared.Strength.{Strength}
use Rattle.filter_kernel.specs.Kernel.{taps_of, pri_of, sec_of}
use Rattle.filter_kernel.specs.PlaceLaws.{taps-near}
use Rattle.filter_kernel.specs.ShapeLaws.{pri-in, sec-in}
use Rattle.arith_strength.specs.StrengthLaws.{limit-low, adjust-low}
use Rattle.trial_strengths.specs.declared.Twelve.{Twelve}
use Rattle.trial_strengths.specs.Strengths.{Ready}
use Rattle.trial_strengths.specs.Strengths.{adjusted_by, twelve_of}

-- adjusting never raises a strength
pub adjusted-low : (way : TrialWay) (s : ℕ) → adjusted_by way s ≤ s
unfolding adjusted_by
adjusted-low (Luma var) s = adjust-low s var
adjusted-low Chroma s = omega arith

-- the parameters that the code puts together
pub strengths-is : (way : TrialWay) (dir : ℕ) (damping : WorkingDamping) (depth d x1 x2 x3 a1 a2 a3 : ℕ) (z o : Taps) (p1 p2 p3 s1 s2 : Strength) → d ≡ max 1 damping.0 → x1 ≡ 1 << (depth - 8) → x2 ≡ 2 << (depth - 8) → x3 ≡ 4 << (depth - 8)
    → a1 ≡ adjusted_by way x1 → a2 ≡ adjusted_by way x2 → a3 ≡ adjusted_by way x3 → z ≡ taps_of 0 → o ≡ taps_of dir
    → p1 ≡ pri_of a1 d depth → p2 ≡ pri_of a2 d depth → p3 ≡ pri_of a3 d depth → s1 ≡ sec_of x1 d → s2 ≡ sec_of x2 d
    → ◌≡◌ {A = Twelve} (record { zero = z; own = o; p1 = p1; p2 = p2; p3 = p3; s1 = s1; s2 = s2 }) (twelve_of way dir damping depth)
unfolding twelve_of
strengths-is way dir damping depth d x1 x2 x3 a1 a2 a3 z o p1 p2 p3 s1 s2 e f g h k l m n q r t u v w = rw (r, t, u, v, w, n, q, k, l, m, f, g, h, e)

pub twelve-ready : (way : TrialWay) (dir : ℕ) (damping : WorkingDamping) (depth : ℕ) → dir < 8 → depth ≤ 12 → Ready (twelve_of way dir damping depth)
unfolding twelve_of
twelve-ready way dir damping depth hd hi =
    let low : (n : ℕ) → n ≤ 15 → adjusted_by way (n << (depth - 8)) ≤ 240 = λ n h. omega (arith, limit-low n depth h hi, adjusted-low way (n << (depth - 8))) in
    record {
      zero = taps-near 0 (omega arith);
      own = taps-near dir hd;
      p1 = pri-in _ _ depth (low 1 (omega arith));
      p2 = pri-in _ _ depth (low 2 (omega arith));
      p3 = pri-in _ _ depth (low 4 (omega arith));
      s1 = sec-in _ _ (limit-low 1 depth (omega arith) hi);
      s2 = sec-in _ _ (limit-low 2 depth (omega arith) hi);
    }

-- The filter parameters of the twelve trials, in the code's form. Definitions only.
use Rattle.std.specs.Prelude.{ℕ, ◌-◌, max}
use Rattle.cdef_spec.specs.declared.TrialWay.{TrialWay}
use Rattle.cdef_spec.specs.declared.TrialWay.TheVariants.{Luma, Chroma}
use Rattle.cdef_spec.specs.declared.WorkingDamping.{WorkingDamping}
use Rattle.cdef_spec.specs.Words.{◌<<◌}
use Rattle.cdef_spec.specs.Standard.{adjust_pri}
use Rattle.filter_kernel.specs.Kernel.{taps_of, pri_of, sec_of}
use Rattle.filter_rows.specs.Sums.{Near6, InRange}
use Rattle.trial_strengths.specs.declared.Twelve.{Twelve}

-- a primary strength, adjusted in luma and unchanged in chroma
unfoldable pub adjusted_by : TrialWay → ℕ → ℕ
adjusted_by (Luma var) s = adjust_pri s var
adjusted_by Chroma s = s

unfoldable pub twelve_of : TrialWay → ℕ → WorkingDamping → ℕ → Twelve
twelve_of way dir damping depth = record {
  zero = taps_of 0;
  own = taps_of dir;
  p1 = pri_of (adjusted_by way (1 << (depth - 8))) (max 1 damping.0) depth;
  p2 = pri_of (adjusted_by way (2 << (depth - 8))) (max 1 damping.0) depth;
  p3 = pri_of (adjusted_by way (4 << (depth - 8))) (max 1 damping.0) depth;
  s1 = sec_of (1 << (depth - 8)) (max 1 damping.0);
  s2 = sec_of (2 << (depth - 8)) (max 1 damping.0);
}

-- the parameters of the twelve lie in range
pub record Ready (u : Twelve) : Type 0 where
  pub zero : Near6 u.zero
  pub own : Near6 u.own
  pub p1 : InRange u.p1
  pub p2 : InRange u.p2
  pub p3 : InRange u.p3
  pub s1 : InRange u.s1
  pub s2 : InRange u.s2

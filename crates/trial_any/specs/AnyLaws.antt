-- THE TWELVE TRIALS OF A WINDOW ARE THE FILTERED SAMPLES of the plane.
use Rattle.std.specs.Prelude.{◌≡◌, Bool, true, false, cond, List, eqb}
use Rattle.std.proofs.Math.Path.{refl, ap}
use Rattle.std.proofs.Common.{◌∙◌, mul_comm, zero-mul, arith}
use Prim.Native.Nat.{ℕ, zero, suc, ◌+◌, ◌-◌, ◌*◌, ◌/◌, ◌%◌, ◌^◌, ◌≤◌, ◌<◌, max}
use Rattle.std.proofs.Math.ListN.{get_or}
use Rattle.cdef_spec.specs.declared.Block.{Block}
use Rattle.cdef_spec.specs.declared.FilterParams.{FilterParams}
use Rattle.cdef_spec.specs.declared.TrialWay.{TrialWay}
use Rattle.cdef_spec.specs.declared.TrialWay.TheVariants.{Luma, Chroma}
use Rattle.cdef_spec.specs.declared.WorkingDamping.{WorkingDamping}
use Rattle.cdef_spec.specs.Words.{◌>>◌, ◌<<◌}
use Rattle.cdef_spec.specs.Standard.{sample, adjust_pri}
use Rattle.cdef_spec.specs.Document01.{Plane, mark, or_else, filtered, primaries, secondaries, trial_pair, luma_params, chroma_params}
use Rattle.cdef_spec.specs.GeometryLaws.{row_of}
use Rattle.cdef_spec.specs.BlockCalls.{trial_params}
use Rattle.arith_sample.specs.Bounds.{Held}
use Rattle.arith_sample.specs.Upto.{upto}
use Rattle.filter_rows.specs.declared.Taps.{Taps}
use Rattle.filter_rows.specs.declared.Strength.{Strength}
use Rattle.filter_window.specs.Window.{window_at}
use Rattle.filter_kernel.specs.Kernel.{taps_of, pri_of, sec_of, kernel_at}
use Rattle.filter_kernel.specs.KernelLaws.{kernel-is}
use Rattle.trial_strengths.specs.declared.Twelve.{Twelve}
use Rattle.trial_strengths.specs.Strengths.{adjusted_by, twelve_of}
use Rattle.trial_any.specs.Any.{none, taps_by, primary_by, secondary_by, kernel_tap, any_tap}

-- ---- the parameters of a trial

-- of the pair a, b
abbrev pub tried : TrialWay → ℕ → ℕ → WorkingDamping → ℕ → ℕ → FilterParams
tried way depth dir damping a b = record { pri = adjusted_by way (a << (depth - 8)); sec = b << (depth - 8); dir = cond (eqb a 0) 0 dir; damping = damping; depth = depth }

pub params_is : (way : TrialWay) (depth dir : ℕ) (damping : WorkingDamping) (t : ℕ) → trial_params way depth dir damping t ≡ tried way depth dir damping (get_or primaries (t % 4) 0) (get_or secondaries (t / 4) 0)
unfolding trial_params luma_params chroma_params trial_pair adjusted_by
params_is (Luma var) depth dir damping t = refl
params_is Chroma depth dir damping t = refl

-- a primary 0 stays 0
pub none-adjusted : (way : TrialWay) (s : ℕ) → adjusted_by way (0 << s) ≡ 0
unfolding adjusted_by adjust_pri
none-adjusted (Luma var) s = rw (zero-mul (2 ^ s)) (go (eqb var 0) _)
  where
    go : (b : Bool) (l : ℕ) → cond b 0 ((0 * (4 + l) + 8) >> 4) ≡ 0
    go true l = refl
    go false l = rw (zero-mul (4 + l))
none-adjusted Chroma s = zero-mul (2 ^ s)

-- ---- strengths that are 0 are all the same to the kernel

pub same-primary : (w : List ℕ) (k : ℕ) (t : Taps) (f f2 g : Strength) → f.s ≡ 0 → f2.s ≡ 0 → kernel_at w k t f g ≡ kernel_at w k t f2 g
unfolding kernel_at
same-primary w k t f f2 g e h = rw (e, h)

pub same-secondary : (w : List ℕ) (k : ℕ) (t : Taps) (f g g2 : Strength) → g.s ≡ 0 → g2.s ≡ 0 → kernel_at w k t f g ≡ kernel_at w k t f g2
unfolding kernel_at
same-secondary w k t f g g2 e h = rw (e, h)

module _ (way : TrialWay) (dir : ℕ) (damping : WorkingDamping) (depth : ℕ) (w : List ℕ) (k : ℕ) where
  abbrev u : Twelve
  u = twelve_of way dir damping depth

  -- primary i, and secondary j
  abbrev pri : ℕ → Strength
  pri i = pri_of (adjusted_by way (get_or primaries i 0 << (depth - 8))) (max 1 damping.0) depth

  abbrev sec : ℕ → Strength
  sec j = sec_of (get_or secondaries j 0 << (depth - 8)) (max 1 damping.0)

  by-primary : (i : ℕ) (g : Strength) → i < 4 → kernel_at w k (taps_by u i) (primary_by u i) g ≡ kernel_at w k (taps_of (cond (eqb (get_or primaries i 0) 0) 0 dir)) (pri i) g
  unfolding twelve_of taps_by primary_by primaries none pri_of
  by-primary zero g h = same-primary w k (taps_of 0) none (pri 0) g refl (none-adjusted way (depth - 8))
  by-primary (suc zero) g h = refl
  by-primary (suc (suc zero)) g h = refl
  by-primary (suc (suc (suc zero))) g h = refl
  by-primary (suc (suc (suc (suc i)))) g h = absurd (omega arith)

  by-secondary : (j : ℕ) (o : Taps) (f : Strength) → j < 3 → kernel_at w k o f (secondary_by u j) ≡ kernel_at w k o f (sec j)
  unfolding twelve_of secondary_by secondaries none sec_of
  by-secondary zero o f h = same-secondary w k o f none (sec 0) refl (zero-mul (2 ^ (depth - 8)))
  by-secondary (suc zero) o f h = refl
  by-secondary (suc (suc zero)) o f h = refl
  by-secondary (suc (suc (suc j))) o f h = absurd (omega arith)

turned-low : (b : Bool) (dir : ℕ) → dir < 8 → cond b 0 dir < 8
turned-low true dir h = omega arith
turned-low false dir h = h

-- ---- entry c of trial block t
module _ (p : Plane) (b : Block) (way : TrialWay) (dir : ℕ) (damping : WorkingDamping) (depth : ℕ) (hw : b.width ≤ 8) (hh : b.height ≤ 8) (hd : dir < 8) (held : Held (upto (window_at p b) 144)) where
  pub any-tap : (t c : ℕ) → t < 12 → c < b.height * b.width → any_tap (upto (window_at p b) 144) (twelve_of way dir damping depth) b.width t c ≡ sample (or_else mark (filtered p (trial_params way depth dir damping t) (b.y + c / b.width) (b.x + c % b.width)))
  unfolding any_tap kernel_tap
  any-tap t c ht hc =
      let i : ℕ = c / b.width in
      let j : ℕ = c % b.width in
      let r = row_of b.width b.height c (rw (mul_comm b.width b.height) hc) in
      let at : ℕ = (i + 2) * 12 + 2 + j in
      let win = upto (window_at p b) 144 in
      let e : ℕ = get_or primaries (t % 4) 0 in
      let f : ℕ = get_or secondaries (t / 4) 0 in
      ap sample
      (by-primary way dir damping depth win at (t % 4) _ (omega arith)
      ∙ by-secondary way dir damping depth win at (t / 4) _ _ (omega arith)
      ∙ kernel-is p b (tried way depth dir damping e f) i j hh hw r.0 r.1 (turned-low (eqb e 0) dir hd) held
      ∙ rw (params_is way depth dir damping t))

-- THE TWELVE TRIALS OF A WINDOW ARE THE FILTERED SAMPLES of the plane.
use Rattle.std.specs.Prelude.{◌≡◌, false, List, eqb, get_or}
use Rattle.std.proofs.Math.Path.{refl, ap}
use Prim.Native.Nat.{ℕ, zero, suc, ◌+◌, ◌-◌, ◌*◌, ◌/◌, ◌%◌, ◌^◌, ◌≤◌, ◌<◌, max}
use Rattle.std.proofs.Common.{mul_comm, zero-mul, arith}
use Rattle.cdef_spec.specs.declared.Block.{Block}
use Rattle.cdef_spec.specs.declared.FilterParams.{FilterParams}
use Rattle.cdef_spec.specs.declared.TrialWay.{TrialWay}
use Rattle.cdef_spec.specs.declared.WorkingDamping.{WorkingDamping}
use Rattle.cdef_spec.specs.Words.{◌<<◌}
use Rattle.cdef_spec.specs.Standard.{sample}
use Rattle.cdef_spec.specs.Document01.{Plane, mark, or_else, filtered, primaries, secondaries}
use Rattle.cdef_spec.specs.GeometryLaws.{row_of}
use Rattle.cdef_spec.specs.BlockCalls.{trial_params}
use Rattle.arith_sample.specs.Bounds.{Held}
use Rattle.arith_sample.specs.Upto.{upto}
use Rattle.filter_window.specs.Window.{window_at}
use Rattle.filter_kernel.specs.Kernel.{taps_of, pri_of, sec_of}
use Rattle.filter_kernel.specs.KernelLaws.{centre-sample, pri-sample, sec-sample, both-sample}
use Rattle.trial_sixteen.specs.Sixteen.{pri_by, sec_by}
use Rattle.trial_marks.specs.Trial.{centre_tap, pri_tap, sec_tap, full_tap, trial_tap}
use Rattle.trial_any.specs.AnyLaws.{tried, params_is, none-adjusted}
use Rattle.trial_strengths.specs.Strengths.{adjusted_by, twelve_of}

module _ (p : Plane) (b : Block) (way : TrialWay) (dir : ℕ) (damping : WorkingDamping) (depth : ℕ) (hw : b.width ≤ 8) (hh : b.height ≤ 8) (hd : dir < 8) (held : Held (upto (window_at p b) 144)) (c : ℕ) (hc : c < b.height * b.width) where
  win : List ℕ
  win = upto (window_at p b) 144

  abbrev i : ℕ
  i = c / b.width

  abbrev j : ℕ
  j = c % b.width

  in_block : (i < b.height) × (j < b.width)
  in_block = row_of b.width b.height c (rw (mul_comm b.width b.height) hc)

  -- the filtered sample for the pair e, f
  value : ℕ → ℕ → ℕ
  value e f = or_else mark (filtered p (tried way depth dir damping e f) (b.y + i) (b.x + j))

  centre-is : sample (get_or win ((i + 2) * 12 + 2 + j) 0) ≡ sample (value 0 0)
  unfolding win value
  centre-is = ap sample (centre-sample p b (tried way depth dir damping 0 0) i j hh hw in_block.0 in_block.1 (omega arith) held (none-adjusted way (depth - 8)) (zero-mul (2 ^ (depth - 8))))

  -- with the block's own direction
  abbrev own : ℕ → ℕ → FilterParams
  own e f = record { pri = adjusted_by way (e << (depth - 8)); sec = f << (depth - 8); dir = dir; damping = damping; depth = depth }

  pri-is : (e : ℕ) → eqb e 0 ≡ false → pri_tap win (taps_of dir) (pri_of (adjusted_by way (e << (depth - 8))) (max 1 damping.0) depth) b.width 0 c ≡ sample (value e 0)
  unfolding pri_tap win value
  pri-is e z = rw z (ap sample (pri-sample p b (own e 0) i j hh hw in_block.0 in_block.1 hd held (zero-mul (2 ^ (depth - 8)))))

  sec-is : (f : ℕ) → sec_tap win (taps_of 0) (sec_of (f << (depth - 8)) (max 1 damping.0)) b.width 0 c ≡ sample (value 0 f)
  unfolding sec_tap win value
  sec-is f = ap sample (sec-sample p b (tried way depth dir damping 0 f) i j hh hw in_block.0 in_block.1 (omega arith) held (none-adjusted way (depth - 8)))

  both_is : (e f : ℕ) → eqb e 0 ≡ false → full_tap win (taps_of dir) (pri_of (adjusted_by way (e << (depth - 8))) (max 1 damping.0) depth) (sec_of (f << (depth - 8)) (max 1 damping.0)) b.width 0 c ≡ sample (value e f)
  unfolding full_tap win value
  both_is e f z = rw z (ap sample (both-sample p b (own e f) i j hh hw in_block.0 in_block.1 hd held))

  -- trial by trial
  by-pair : (t : ℕ) → t < 12 → trial_tap win (twelve_of way dir damping depth) b.width t c ≡ sample (value (get_or primaries (t % 4) 0) (get_or secondaries (t / 4) 0))
  unfolding trial_tap pri_by sec_by twelve_of primaries secondaries centre_tap pri_tap sec_tap full_tap
  by-pair zero h = centre-is
  by-pair (suc zero) h = pri-is 1 refl
  by-pair (suc (suc zero)) h = pri-is 2 refl
  by-pair (suc (suc (suc zero))) h = pri-is 4 refl
  by-pair (suc (suc (suc (suc zero)))) h = sec-is 1
  by-pair (suc (suc (suc (suc (suc zero))))) h = both_is 1 1 refl
  by-pair (suc (suc (suc (suc (suc (suc zero)))))) h = both_is 2 1 refl
  by-pair (suc (suc (suc (suc (suc (suc (suc zero))))))) h = both_is 4 1 refl
  by-pair (suc (suc (suc (suc (suc (suc (suc (suc zero)))))))) h = sec-is 2
  by-pair (suc (suc (suc (suc (suc (suc (suc (suc (suc zero))))))))) h = both_is 1 2 refl
  by-pair (suc (suc (suc (suc (suc (suc (suc (suc (suc (suc zero)))))))))) h = both_is 2 2 refl
  by-pair (suc (suc (suc (suc (suc (suc (suc (suc (suc (suc (suc zero))))))))))) h = both_is 4 2 refl
  by-pair (suc (suc (suc (suc (suc (suc (suc (suc (suc (suc (suc (suc t)))))))))))) h = absurd (omega arith)

  pub trial-tap : (t : ℕ) → t < 12 → trial_tap (upto (window_at p b) 144) (twelve_of way dir damping depth) b.width t c ≡ sample (or_else mark (filtered p (trial_params way depth dir damping t) (b.y + c / b.width) (b.x + c % b.width)))
  unfolding win value
  trial-tap t h = rw (params_is way depth dir damping t) (by-pair t h)

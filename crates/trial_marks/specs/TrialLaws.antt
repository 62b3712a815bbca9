-- WHAT THE KERNEL STORES FROM STRIPS IS THE TRIAL of the window.
use Rattle.std.specs.Prelude.{◌≡◌, refl, Bool, cond, List, eqb, leb}
use Rattle.std.proofs.Common.{sym, ◌∙◌, mod-lt, div-add-mod', div-lt_iff_lt-mul, mul-le-mul, leb-false, pow-add, pow_mono}
use Rattle.std.proofs.Math.Path.{ap}
use Rattle.std.proofs.Math.Bool.{true, false}
use Prim.Native.Nat.{ℕ, zero, suc, ◌+◌, ◌-◌, ◌*◌, ◌/◌, ◌%◌, ◌^◌, ◌≤◌, ◌<◌, min, max}
use Rattle.std.proofs.Math.Decide.{dec_le}
use native.Mathlib.Omega.{arith}
use Rattle.cdef_spec.specs.declared.TrialWay.{TrialWay}
use Rattle.cdef_spec.specs.declared.WorkingDamping.{WorkingDamping}
use Rattle.cdef_spec.specs.Standard.{floor_log2_below, floor_log2}
use Rattle.cdef_spec.specs.Words.{◌<<◌}
use Rattle.arith_strength.specs.StrengthLaws.{limit-low}
use Rattle.filter_rows.specs.declared.Strength.{Strength}
use Rattle.filter_kernel.specs.Kernel.{taps_of, shift_of, pri_of, sec_of}
use Rattle.plane_taps.specs.Steps.{taps_by}
use Rattle.trial_strengths.specs.declared.Twelve.{Twelve}
use Rattle.trial_strengths.specs.Strengths.{adjusted_by, twelve_of}
use Rattle.trial_strengths.specs.StrengthLaws.{adjusted-low}
use Rattle.trial_strips.specs.Strips.{Strips}
use Rattle.trial_sixteen.specs.Sixteen.{pri_by, sec_by, raw_tap}
use Rattle.arith_sample.specs.Bounds.{Marked}
use Rattle.trial_marks.specs.Marks.{Quiet, Side}
use Rattle.trial_marks.specs.MarkLaws.{raised-pri, raised-sec, clipped-both}
use Rattle.trial_marks.specs.StripLaws.{raw_at}
use Rattle.trial_marks.specs.Trial.{seen, centre_tap, pri_tap, sec_tap, full_tap, trial_tap, Tame}

-- ---- the strengths of a trial

module _ {u : Twelve} {dir : ℕ} (q : Tame u dir) where
  pri-quiet : (i : ℕ) → Quiet (pri_by u i).s (pri_by u i).sh
  unfolding pri_by
  pri-quiet i = go (eqb i 1) (eqb i 2)
    where
      go : (a b : Bool) → Quiet (cond a u.p1 (cond b u.p2 u.p3)).s (cond a u.p1 (cond b u.p2 u.p3)).sh
      go true b = q.p1
      go false true = q.p2
      go false false = q.p3

  sec-side : (j : ℕ) → Side (sec_by u j)
  unfolding sec_by
  sec-side j = go (eqb j 1)
    where
      go : (a : Bool) → Side (cond a u.s1 u.s2)
      go true = q.s1
      go false = q.s2

  -- from the window itself
  raw-window : (win : List ℕ) → Marked win → (w t c : ℕ) → raw_tap win (seen w c) (taps_of dir) (taps_of 0) u t 0 ≡ trial_tap win u w t c
  unfolding raw_tap trial_tap centre_tap pri_tap sec_tap full_tap
  raw-window win m w t c =
      let e : seen w c + 0 ≡ seen w c = omega arith in
      let f : Strength = pri_by u (t % 4) in
      let g : Strength = sec_by u (t / 4) in
      let p : Quiet f.s f.sh = pri-quiet (t % 4) in
      let r : Side g = sec-side (t / 4) in
      rw (e, q.zero, q.own)
      (rw (raised-sec win m (seen w c) (taps_of 0) g r, raised-pri win m (seen w c) (taps_of dir) f p, clipped-both win m (seen w c) (taps_of dir) f g p r))

-- ---- the goal: h rows of w samples, in five strips of n = h + 4 rows

module _ {win s : List ℕ} {w n : ℕ} (st : Strips win w n s) (m : Marked win) (pw : 0 < w) (hw : w ≤ 8) (hn : n ≤ 12) {u : Twelve} {dir : ℕ} (hd : dir < 8) (q : Tame u dir) where
  pub trial-is : (h t c : ℕ) → n ≡ h + 4 → c < h * w
      → raw_tap s (2 * (n * w) + 2 * w) (taps_by w (n * w) dir) (taps_by w (n * w) 0) u t c ≡ trial_tap win u w t c
  trial-is h t c e hc =
      let d : c / w * w + c % w ≡ c = div-add-mod' c w in
      let r : c / w < h = (div-lt_iff_lt-mul pw).1 hc in
      let l : c % w < w = mod-lt c pw in
      let x : raw_tap s (2 * (n * w) + 2 * w) (taps_by w (n * w) dir) (taps_by w (n * w) 0) u t (c / w * w + c % w) ≡ raw_tap win (seen w c) (taps_of dir) (taps_of 0) u t 0 = raw_at st hw hn (c / w) (c % w) (omega arith) l dir hd u t in
      ap (λ (a : ℕ). raw_tap s (2 * (n * w) + 2 * w) (taps_by w (n * w) dir) (taps_by w (n * w) 0) u t a) (sym d) ∙ x ∙ raw-window q win m w t c

-- ---- the twelve trials' strengths

-- a number is below the power of two after its logarithm
below_top : (K n : ℕ) → n < 2 ^ suc K → n < 2 ^ suc (floor_log2_below K n)
unfolding floor_log2_below
below_top zero n h = h
below_top (suc K) n h = go (λ l. below_top K n l) (leb (2 ^ suc K) n) refl
  where
    go : (n < 2 ^ suc K → n < 2 ^ suc (floor_log2_below K n)) → (b : Bool) → leb (2 ^ suc K) n ≡ b → n < 2 ^ suc (cond b (suc K) (floor_log2_below K n))
    go ih true e = h
    go ih false e = ih (leb-false (2 ^ suc K) n e)

log-top : (n : ℕ) → n ≤ 240 → n < 2 ^ suc (floor_log2 n)
unfolding floor_log2
log-top n h = below_top 31 n (omega arith)

shift-quiet : (s d : ℕ) → s ≤ 240 → d ≤ 12 → Quiet s (shift_of s d)
unfolding shift_of
shift-quiet s d hs hd = record { quiet = go (dec_le (floor_log2 s) d) }
  where
    go : Dec (floor_log2 s ≤ d) → s * 2 ^ min (d - floor_log2 s) 15 ≤ 12288
    go (yes l) =
        let a : min (d - floor_log2 s) 15 ≡ d - floor_log2 s = omega arith in
        let b : s ≤ 2 ^ suc (floor_log2 s) = omega (arith, log-top s hs) in
        let r : 2 ^ (d - floor_log2 s) ≤ 2 ^ (d - floor_log2 s) = omega arith in
        let e : suc (floor_log2 s) + (d - floor_log2 s) ≡ suc d = omega arith in
        let f : 2 ^ suc (floor_log2 s) * 2 ^ (d - floor_log2 s) ≡ 2 ^ suc d = sym (pow-add 2 (suc (floor_log2 s)) (d - floor_log2 s)) ∙ ap (λ (x : ℕ). 2 ^ x) e in
        let g : suc d ≤ 13 = omega arith in
        let k : 2 ^ suc d ≤ 2 ^ 13 = pow_mono {i = suc d} {j = 13} g in
        let v : s * 2 ^ (d - floor_log2 s) ≤ 2 ^ suc (floor_log2 s) * 2 ^ (d - floor_log2 s) = mul-le-mul b r in
        rw a (omega arith)
    go (no l) = let a : min (d - floor_log2 s) 15 ≡ 0 = omega arith in rw a (omega arith)

pri-tame : (s d depth : ℕ) → s ≤ 240 → d ≤ 12 → Quiet (pri_of s d depth).s (pri_of s d depth).sh
unfolding pri_of
pri-tame s d depth hs hd = shift-quiet s d hs hd

sec-tame : (s d : ℕ) → s ≤ 240 → d ≤ 12 → Side (sec_of s d)
unfolding sec_of
sec-tame s d hs hd = record { quiet = shift-quiet s d hs hd; w0 = refl; w1 = refl }

module _ (way : TrialWay) (dir : ℕ) (damping : WorkingDamping) (depth : ℕ) where
  pub quiet-twelve : damping.0 ≤ 12 → depth ≤ 12 → Tame (twelve_of way dir damping depth) dir
  unfolding twelve_of
  quiet-twelve hd hi =
      let low : (n : ℕ) → n ≤ 15 → adjusted_by way (n << (depth - 8)) ≤ 240 = λ n h. omega (arith, limit-low n depth h hi, adjusted-low way (n << (depth - 8))) in
      let d : max 1 damping.0 ≤ 12 = omega arith in
      record {
        zero = refl;
        own = refl;
        p1 = pri-tame _ _ depth (low 1 (omega arith)) d;
        p2 = pri-tame _ _ depth (low 2 (omega arith)) d;
        p3 = pri-tame _ _ depth (low 4 (omega arith)) d;
        s1 = sec-tame _ _ (limit-low 1 depth (omega arith) hi) d;
        s2 = sec-tame _ _ (limit-low 2 depth (omega arith) hi) d;
      }

  -- equal strengths are equal in all
  pub same-twelve : let u = twelve_of way dir damping depth in u.p2.s ≡ u.p3.s → u.p2 ≡ u.p3
  unfolding twelve_of pri_of
  same-twelve e = ap (λ (x : ℕ). pri_of x (max 1 damping.0) depth) e

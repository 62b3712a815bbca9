-- The taps of strips are the window's.
use Rattle.std.specs.Prelude.{◌≡◌, refl, List, ℤ, ◌+ℤ◌, get_or}
use Rattle.std.proofs.Common.{ap, mul-le-mul, mul_assoc}
use Prim.Native.Nat.{ℕ, zero, suc, ◌+◌, ◌-◌, ◌*◌, ◌/◌, ◌%◌, ◌≤◌, ◌<◌}
use native.Mathlib.Omega.{arith}
use Rattle.std.proofs.Math.IntN.{+ℤ_comm}
use Rattle.cdef_spec.specs.CodeForm.{row_of, col_of}
use Rattle.cdef_spec.proofs.PlaceLaws.{steps_low}
use Rattle.filter_limits.specs.declared.Pair.{Pair}
use Rattle.filter_rows.specs.Place.{on_from, back_from}
use Rattle.filter_rows.specs.Pairs.{pair_of, pairs_of}
use Rattle.filter_rows.specs.declared.Strength.{Strength}
use Rattle.filter_kernel.specs.Kernel.{off_at, taps_of}
use Rattle.filter_kernel.specs.PlaceLaws.{on-is, back_at}
use Rattle.plane_taps.specs.Steps.{wrapped_step, step_by, taps_by}
use Rattle.plane_taps.specs.StepLaws.{step-on, step_back}
use Rattle.plane_taps.specs.Plain.{pair_plain}
use Rattle.trial_strengths.specs.declared.Twelve.{Twelve}
use Rattle.trial_strips.specs.Strips.{Strips}
use Rattle.trial_sums.specs.Raw.{side_of, pri_raw, near_raw, sec_raw}
use Rattle.trial_sixteen.specs.Sixteen.{raised_raw, clipped_raw, pri_by, sec_by, raw_tap}

-- ---- row `row` and column `col` of a block, in the strips and in the window

module _ {win s : List ℕ} {w n : ℕ} (st : Strips win w n s) (hw : w ≤ 8) (hn : n ≤ 12) (row col : ℕ) (hr : row + 4 < n) (hc : col < w) where
  abbrev strip : ℕ
  strip = 2 * (n * w) + 2 * w + (row * w + col)

  abbrev seen : ℕ
  seen = (row + 2) * 12 + 2 + col

  strip-size : n * w ≤ 96
  strip-size = mul-le-mul hn hw

  row-size : row * w ≤ 64
  row-size = let l : row ≤ 8 = omega arith in mul-le-mul l hw

  module _ (r2 c2 : ℕ) (hr2 : r2 ≤ 4) (hc2 : c2 ≤ 4) where
    on-strip : on_from strip (wrapped_step w (n * w) r2 c2) ≡ (c2 * n + (row + r2)) * w + col
    on-strip = step-on w (n * w) (omega arith) (omega (arith, strip-size)) r2 c2 hr2 hc2 strip (omega arith) (omega (arith, strip-size, row-size)) _ (omega (arith, mul_assoc c2 n w))

    -- both sides together are four strips and four rows
    strips-both : (4 - c2) * n * w + c2 * (n * w) ≡ 4 * (n * w)
    strips-both =
        let e : (4 - c2) + c2 ≡ 4 = omega arith in
        let p : ((4 - c2) + c2) * (n * w) ≡ 4 * (n * w) = ap (λ (m : ℕ). m * (n * w)) e in
        omega (arith, mul_assoc (4 - c2) n w)

    rows_both : (4 - r2) * w + r2 * w ≡ 4 * w
    rows_both =
        let e : (4 - r2) + r2 ≡ 4 = omega arith in
        let p : ((4 - r2) + r2) * w ≡ 4 * w = ap (λ (m : ℕ). m * w) e in
        omega arith

    back-strip : back_from strip (wrapped_step w (n * w) r2 c2) ≡ ((4 - c2) * n + (row + (4 - r2))) * w + col
    back-strip = step_back w (n * w) (omega arith) (omega (arith, strip-size)) r2 c2 hr2 hc2 strip (omega arith) (omega (arith, strip-size, row-size)) _ (omega (arith, strips-both, rows_both))

    -- the entry of strip c2 in row row + r2 is the window's
    entry : get_or s ((c2 * n + (row + r2)) * w + col) 0 ≡ get_or win ((row + r2) * 12 + (col + c2)) 0
    entry = let e : col + c2 ≡ c2 + col = omega arith in rw e (st.at c2 (row + r2) col (omega arith) (omega arith) hc)

  pub centre-at : get_or s strip 0 ≡ get_or win seen 0
  centre-at =
      let e : strip ≡ (2 * n + (row + 2)) * w + col = omega arith in
      let f : seen ≡ (row + 2) * 12 + (col + 2) = omega arith in
      rw (e, f) (entry 2 2 (omega arith) (omega arith))

  pub pair-at : (dir k : ℕ) → dir < 8 → k < 2 → pair_of s strip (step_by w (n * w) dir k) ≡ pair_of win seen (off_at dir k)
  unfolding pair_of step_by off_at
  pair-at dir k hd hk =
      let l = steps_low dir k hd hk in
      let r : ℕ = row_of dir k in
      let c : ℕ = col_of dir k in
      rw (on-strip r c l.0 l.1, back-strip r c l.0 l.1, on-is row col r c (omega arith) (omega arith) l.0 l.1, back_at row col r c (omega arith) (omega arith) l.0 l.1)
      (rw (entry r c l.0 l.1, entry (4 - r) (4 - c) (omega arith) (omega arith)))

  pub pairs-at : (dir : ℕ) → dir < 8 → pairs_of s strip (taps_by w (n * w) dir) ≡ pairs_of win seen (taps_of dir)
  unfolding pairs_of taps_by taps_of
  pairs-at dir hd =
      let a : (dir + 2) % 8 < 8 = omega arith in
      let b : (dir + 6) % 8 < 8 = omega arith in
      let k : 0 < 2 = omega arith in
      let l : 1 < 2 = omega arith in
      rw (pair-at dir 0 hd k, pair-at dir 1 hd l, pair-at ((dir + 2) % 8) 0 a k, pair-at ((dir + 2) % 8) 1 a l, pair-at ((dir + 6) % 8) 0 b k, pair-at ((dir + 6) % 8) 1 b l)

  -- the sums
  pub pri-at : (dir : ℕ) → dir < 8 → (f : Strength) → pri_raw s strip (taps_by w (n * w) dir) f ≡ pri_raw win seen (taps_of dir) f
  unfolding pri_raw taps_by taps_of
  pri-at dir hd f = rw (centre-at, pair-at dir 0 hd (omega arith), pair-at dir 1 hd (omega arith))

  pub sec-at : (dir : ℕ) → dir < 8 → (v sh : ℕ) → sec_raw s strip (taps_by w (n * w) dir) v sh ≡ sec_raw win seen (taps_of dir) v sh
  unfolding sec_raw near_raw taps_by taps_of
  sec-at dir hd v sh =
      let a : (dir + 2) % 8 < 8 = omega arith in
      let b : (dir + 6) % 8 < 8 = omega arith in
      let k : 0 < 2 = omega arith in
      let l : 1 < 2 = omega arith in
      rw (centre-at, pair-at ((dir + 2) % 8) 0 a k, pair-at ((dir + 2) % 8) 1 a l, pair-at ((dir + 6) % 8) 0 b k, pair-at ((dir + 6) % 8) 1 b l)

  -- the sample
  raised_at : (z : ℤ) → raised_raw s strip z ≡ raised_raw win seen z
  unfolding raised_raw
  raised_at z = rw centre-at

  clipped-at : (dir : ℕ) → dir < 8 → (z : ℤ) → clipped_raw s strip (taps_by w (n * w) dir) z ≡ clipped_raw win seen (taps_of dir) z
  unfolding clipped_raw
  clipped-at dir hd z = rw (centre-at, pairs-at dir hd)

  pub raw_at : (dir : ℕ) → dir < 8 → (u : Twelve) (t : ℕ) → raw_tap s (2 * (n * w) + 2 * w) (taps_by w (n * w) dir) (taps_by w (n * w) 0) u t (row * w + col) ≡ raw_tap win seen (taps_of dir) (taps_of 0) u t 0
  unfolding raw_tap
  raw_at dir hd u t =
      let e : seen + 0 ≡ seen = omega arith in
      let g : Strength = sec_by u (t / 4) in
      let f : Strength = pri_by u (t % 4) in
      rw (e, centre-at, sec-at 0 (omega arith) g.s g.sh, sec-at dir hd g.s g.sh, pri-at dir hd f)
      (rw (raised_at (sec_raw win seen (taps_of 0) g.s g.sh), raised_at (pri_raw win seen (taps_of dir) f), clipped-at dir hd (pri_raw win seen (taps_of dir) f +ℤ sec_raw win seen (taps_of dir) g.s g.sh)))

-- ---- the secondary taps of the directions 0 and 4 are the same, the two sides exchanged

side-comm : (q r : Pair) (c s sh : ℕ) → side_of q r c s sh ≡ side_of r q c s sh
unfolding side_of
side-comm q r c s sh = +ℤ_comm (pair_plain q c s sh) (pair_plain r c s sh)

pub sec-same : (l : List ℕ) (k w p dir s sh : ℕ) → dir < 8 → dir % 4 ≡ 0 → sec_raw l k (taps_by w p dir) s sh ≡ sec_raw l k (taps_by w p 0) s sh
unfolding sec_raw near_raw taps_by
sec-same l k w p zero s sh h e = refl
sec-same l k w p (suc zero) s sh h e = absurd (omega arith)
sec-same l k w p (suc (suc zero)) s sh h e = absurd (omega arith)
sec-same l k w p (suc (suc (suc zero))) s sh h e = absurd (omega arith)
sec-same l k w p (suc (suc (suc (suc zero)))) s sh h e =
    let c : ℕ = get_or l k 0 in
    rw (side-comm (pair_of l k (step_by w p 6 0)) (pair_of l k (step_by w p 2 0)) c s sh, side-comm (pair_of l k (step_by w p 6 1)) (pair_of l k (step_by w p 2 1)) c s sh)
sec-same l k w p (suc (suc (suc (suc (suc d))))) s sh h e = absurd (omega arith)

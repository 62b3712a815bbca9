-- A wrapped offset, added to an index or subtracted from it, gives the index of the intended sample.
use Rattle.std.specs.Prelude.{◌≡◌, ℕ, zero, suc, ◌+◌, ◌-◌, ◌*◌, ◌%◌, ◌^◌, ◌<◌, ◌≤◌, min, cond, ◌⊎◌, nat_le}
use Rattle.std.proofs.Common.{ap, inl, inr, mul-le-mul_right, mod-eq_of_lt}
use Rattle.std.proofs.Math.Logic.{⊎_elim}
use Rattle.std.proofs.Math.Decide.{dec_le}
use native.Mathlib.Omega.{arith}
use Rattle.cdef_spec.specs.CodeForm.{rows, cols, row_of, col_of}
use Rattle.cdef_spec.proofs.PlaceLaws.{steps_low}
use Rattle.filter_rows.specs.Place.{on_from, back_from}
use Rattle.plane_taps.specs.Steps.{wrapped_step, step_by, taps_by, taps_in, Reach, Reach6}

-- ---- an offset of at most m

module _ (m k o : ℕ) (lo : m ≤ k) (hi : k + m < 2 ^ 63) (n : Reach m o) where
  pub on-near : (on_from k o ≤ k + m) × (k ≤ on_from k o + m)
  unfolding on_from
  on-near = ⊎_elim (λ w. (omega arith, omega arith)) (λ w. (omega arith, omega arith)) n.reach

  pub back-near : (back_from k o ≤ k + m) × (k ≤ back_from k o + m)
  unfolding back_from
  back-near = ⊎_elim (λ w. (omega arith, omega arith)) (λ w. (omega arith, omega arith)) n.reach

  -- from an index further on
  pub on-more : (j : ℕ) → k + j + m < 2 ^ 63 → on_from (k + j) o ≡ on_from k o + j
  unfolding on_from
  on-more j h = ⊎_elim (λ w. omega arith) (λ w. omega arith) n.reach

  pub back_more : (j : ℕ) → k + j + m < 2 ^ 63 → back_from (k + j) o ≡ back_from k o + j
  unfolding back_from
  back_more j h = ⊎_elim (λ w. omega arith) (λ w. omega arith) n.reach

-- ---- a wrapped difference s - m: it is near, and leads from k to t forward, to u back

past-wrap : (t : ℕ) → t < 2 ^ 64 → (t + 2 ^ 64) % 2 ^ 64 ≡ t
past-wrap t h = omega arith

module _ (s m : ℕ) (hs : s ≤ 2 * m) (hm : m ≤ 2 ^ 32) where
  less-up : m ≤ s → (s + (2 ^ 64 - m)) % 2 ^ 64 ≡ s - m
  less-up l = let q : s + (2 ^ 64 - m) ≡ s - m + 2 ^ 64 = omega arith in rw q (past-wrap (s - m) (omega arith))

  less-down : s < m → (s + (2 ^ 64 - m)) % 2 ^ 64 ≡ 2 ^ 64 - (m - s)
  less-down l = let q : s + (2 ^ 64 - m) ≡ 2 ^ 64 - (m - s) = omega arith in rw q (mod-eq_of_lt (omega arith))

  less-near : Reach m ((s + (2 ^ 64 - m)) % 2 ^ 64)
  less-near = record { reach = go (dec_le m s) }
    where
      go : Dec (m ≤ s) → ((s + (2 ^ 64 - m)) % 2 ^ 64 ≤ m) ⊎ ((2 ^ 64 - m ≤ (s + (2 ^ 64 - m)) % 2 ^ 64) × ((s + (2 ^ 64 - m)) % 2 ^ 64 < 2 ^ 64))
      go (yes l) = inl (omega (arith, less-up l))
      go (no l) = inr (omega (arith, less-down (omega arith)), omega (arith, less-down (omega arith)))

  module _ (k : ℕ) (hk : m ≤ k) (hi : k ≤ 2 ^ 40) where
    pub leads-on : (t : ℕ) → k + s ≡ t + m → on_from k ((s + (2 ^ 64 - m)) % 2 ^ 64) ≡ t
    unfolding on_from
    leads-on t e = go (dec_le m s)
      where
        go : Dec (m ≤ s) → (k + (s + (2 ^ 64 - m)) % 2 ^ 64) % 2 ^ 64 ≡ t
        go (yes l) = let q : k + (s - m) ≡ t = omega arith in rw (less-up l, q) (mod-eq_of_lt (omega arith))
        go (no l) = let q : k + (2 ^ 64 - (m - s)) ≡ t + 2 ^ 64 = omega arith in rw (less-down (omega arith), q) (past-wrap t (omega arith))

    pub leads-back : (u : ℕ) → k + m ≡ u + s → back_from k ((s + (2 ^ 64 - m)) % 2 ^ 64) ≡ u
    unfolding back_from
    leads-back u e = go (dec_le m s)
      where
        go : Dec (m ≤ s) → (k + (2 ^ 64 - (s + (2 ^ 64 - m)) % 2 ^ 64)) % 2 ^ 64 ≡ u
        go (yes l) = let q : k + (2 ^ 64 - (s - m)) ≡ u + 2 ^ 64 = omega arith in rw (less-up l, q) (past-wrap u (omega arith))
        go (no l) = let q : k + (2 ^ 64 - (2 ^ 64 - (m - s))) ≡ u = omega arith in rw (less-down (omega arith), q) (mod-eq_of_lt (omega arith))

-- ---- the steps: at most two rows and two columns

module _ (w p : ℕ) (hw : w ≤ 4096) (hp : p ≤ 4096) where
  step-low : (r2 c2 : ℕ) → r2 ≤ 4 → c2 ≤ 4 → r2 * w + c2 * p ≤ 2 * (2 * w + 2 * p)
  step-low r2 c2 hr hc = omega (arith, mul-le-mul_right w hr, mul-le-mul_right p hc)

  near_by : (dir k : ℕ) → dir < 8 → k < 2 → Reach (2 * w + 2 * p) (step_by w p dir k)
  unfolding step_by wrapped_step
  near_by dir k hd hk = let l = steps_low dir k hd hk in less-near (row_of dir k * w + col_of dir k * p) (2 * w + 2 * p) (step-low (row_of dir k) (col_of dir k) l.0 l.1) (omega arith)

  pub taps-near : (dir : ℕ) → dir < 8 → Reach6 (2 * w + 2 * p) (taps_by w p dir)
  unfolding taps_by
  taps-near dir h = record {
    p0 = near_by dir 0 h (omega arith);
    p1 = near_by dir 1 h (omega arith);
    q0 = near_by ((dir + 2) % 8) 0 (omega arith) (omega arith);
    q1 = near_by ((dir + 2) % 8) 1 (omega arith) (omega arith);
    r0 = near_by ((dir + 6) % 8) 0 (omega arith) (omega arith);
    r1 = near_by ((dir + 6) % 8) 1 (omega arith) (omega arith);
  }

  module _ (r2 c2 : ℕ) (hr : r2 ≤ 4) (hc : c2 ≤ 4) (k : ℕ) (hk : 2 * w + 2 * p ≤ k) (hi : k ≤ 2 ^ 40) where
    pub step-on : (t : ℕ) → k + (r2 * w + c2 * p) ≡ t + (2 * w + 2 * p) → on_from k (wrapped_step w p r2 c2) ≡ t
    unfolding wrapped_step
    step-on t e = leads-on (r2 * w + c2 * p) (2 * w + 2 * p) (step-low r2 c2 hr hc) (omega arith) k hk hi t e

    pub step_back : (t : ℕ) → k + (2 * w + 2 * p) ≡ t + (r2 * w + c2 * p) → back_from k (wrapped_step w p r2 c2) ≡ t
    unfolding wrapped_step
    step_back t e = leads-back (r2 * w + c2 * p) (2 * w + 2 * p) (step-low r2 c2 hr hc) (omega arith) k hk hi t e

pub taps-reach : (w dir : ℕ) → w ≤ 4096 → dir < 8 → Reach6 (2 * w + 2) (taps_in w dir)
taps-reach w dir hw h = taps-near w 1 hw (omega arith) dir h

-- ---- in a plane: row y and column x

module _ (w y x r2 c2 : ℕ) (hw : w ≤ 4096) (hy : 2 ≤ y) (hh : y ≤ 4096) (hx : 2 ≤ x) (hv : x ≤ 4096) (hr : r2 ≤ 4) (hc : c2 ≤ 4) where
  -- rows y + a - 2 and y + (4 - a) - 2 lie on both sides of y
  rows-sum : (y + r2 - 2) * w + 2 * w ≡ y * w + r2 * w
  rows-sum =
      let e : (y + r2 - 2) + 2 ≡ y + r2 = omega arith in
      let p : ((y + r2 - 2) + 2) * w ≡ (y + r2) * w = ap (λ (n : ℕ). n * w) e in
      omega arith

  rows_both : (y + r2 - 2) * w + (y + (4 - r2) - 2) * w ≡ y * w + y * w
  rows_both =
      let e : (y + r2 - 2) + (y + (4 - r2) - 2) ≡ y + y = omega arith in
      let p : ((y + r2 - 2) + (y + (4 - r2) - 2)) * w ≡ (y + y) * w = ap (λ (n : ℕ). n * w) e in
      omega arith

  far-in : 2 * w + 2 * 1 ≤ y * w + x
  far-in = omega (arith, mul-le-mul_right w hy)

  low : y * w + x ≤ 2 ^ 40
  low = omega (arith, mul-le-mul_right w hh)

  pub on-lands : on_from (y * w + x) (wrapped_step w 1 r2 c2) ≡ (y + r2 - 2) * w + (x + c2 - 2)
  on-lands = step-on w 1 hw (omega arith) r2 c2 hr hc (y * w + x) far-in low _ (omega (arith, rows-sum))

  pub back-lands : back_from (y * w + x) (wrapped_step w 1 r2 c2) ≡ (y + (4 - r2) - 2) * w + (x + (4 - c2) - 2)
  back-lands = step_back w 1 hw (omega arith) r2 c2 hr hc (y * w + x) far-in low _ (omega (arith, rows-sum, rows_both))

-- ---- the steps by comparisons

module _ (w p s : ℕ) (hw : w ≤ 4096) (hp : p ≤ 4096) where
  pub near-is : (dir : ℕ) → dir < 8 → s ≡ (cond (nat_le 1 dir) 1 0 + cond (nat_le 4 dir) 1 0) * w + cond (nat_le dir 4) 1 0 * p → (s + (2 ^ 64 - w)) % 2 ^ 64 ≡ step_by w p dir 0
  unfolding step_by wrapped_step rows cols
  near-is zero h e = omega arith
  near-is (suc zero) h e = omega arith
  near-is (suc (suc zero)) h e = omega arith
  near-is (suc (suc (suc zero))) h e = omega arith
  near-is (suc (suc (suc (suc zero)))) h e = omega arith
  near-is (suc (suc (suc (suc (suc zero))))) h e = omega arith
  near-is (suc (suc (suc (suc (suc (suc zero)))))) h e = omega arith
  near-is (suc (suc (suc (suc (suc (suc (suc zero))))))) h e = omega arith
  near-is (suc (suc (suc (suc (suc (suc (suc (suc d)))))))) h e = absurd (omega arith)

  pub far-is : (dir row : ℕ) → dir < 8 → row ≡ min dir 4 → s ≡ row * w + (4 + row - dir) * p → (s + (2 ^ 64 - (2 * w + 2 * p))) % 2 ^ 64 ≡ step_by w p dir 1
  unfolding step_by wrapped_step rows cols
  far-is zero row h q e = let g = rw q at e in omega arith
  far-is (suc zero) row h q e = let g = rw q at e in omega arith
  far-is (suc (suc zero)) row h q e = let g = rw q at e in omega arith
  far-is (suc (suc (suc zero))) row h q e = let g = rw q at e in omega arith
  far-is (suc (suc (suc (suc zero)))) row h q e = let g = rw q at e in omega arith
  far-is (suc (suc (suc (suc (suc zero))))) row h q e = let g = rw q at e in omega arith
  far-is (suc (suc (suc (suc (suc (suc zero)))))) row h q e = let g = rw q at e in omega arith
  far-is (suc (suc (suc (suc (suc (suc (suc zero))))))) row h q e = let g = rw q at e in omega arith
  far-is (suc (suc (suc (suc (suc (suc (suc (suc d)))))))) row h q e = absurd (omega arith)

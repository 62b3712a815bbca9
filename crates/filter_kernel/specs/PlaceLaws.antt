-- A wrapped offset, added to an index of the window or subtracted from it, gives the entry with the plane's sample at the intended row and column, or the mark where that is off the plane.
use Rattle.std.specs.Prelude.{◌≡◌, ◌⊎◌, ℕ, ◌+◌, ◌-◌, ◌*◌, ◌%◌, ◌^◌, ◌≤◌, ◌<◌, get_or}
use Rattle.std.proofs.Common.{◌∙◌, inl, inr}
use Rattle.std.proofs.Math.Decide.{dec_le}
use native.Mathlib.Omega.{arith}
use Rattle.cdef_spec.specs.declared.Block.{Block}
use Rattle.cdef_spec.specs.Document01.{Plane}
use Rattle.cdef_spec.specs.CodeForm.{row_of, col_of, sample_at}
use Rattle.cdef_spec.proofs.PlaceLaws.{steps_low}
use Rattle.arith_sample.specs.Sample.{or_centre}
use Rattle.arith_sample.specs.Upto.{upto, get_or-upto}
use Rattle.filter_rows.specs.Place.{Near, on_from, back_from, tap_on, tap_back}
use Rattle.filter_rows.specs.Sums.{Near6}
use Rattle.filter_window.specs.Window.{window_at}
use Rattle.filter_window.specs.WindowLaws.{window-in}
use Rattle.plane_taps.specs.Steps.{wrapped_step, step_by, step_in, taps_by, taps_in}
use Rattle.filter_kernel.specs.Kernel.{wrapped, off_at, taps_of}

-- ---- offsets are those in a plane 12 wide, and near

step-window : (dir k : ℕ) → step_in 12 dir k ≡ off_at dir k
unfolding step_by wrapped_step off_at wrapped
step-window dir k = let e : row_of dir k * 12 + col_of dir k * 1 ≡ row_of dir k * 12 + col_of dir k = omega arith in rw e

pub taps-window : (dir : ℕ) → taps_in 12 dir ≡ taps_of dir
unfolding taps_by taps_of
taps-window dir = rw (step-window dir 0, step-window dir 1, step-window ((dir + 2) % 8) 0, step-window ((dir + 2) % 8) 1, step-window ((dir + 6) % 8) 0, step-window ((dir + 6) % 8) 1)

wrapped-near : (r2 c2 : ℕ) → r2 ≤ 4 → c2 ≤ 4 → Near (wrapped r2 c2)
unfolding wrapped
wrapped-near r2 c2 hr hc = record { near = go (dec_le 26 (r2 * 12 + c2)) }
  where
    go : Dec (26 ≤ r2 * 12 + c2) → ((r2 * 12 + c2 + (2 ^ 64 - 26)) % 2 ^ 64 ≤ 26) ⊎ ((2 ^ 64 - 26 ≤ (r2 * 12 + c2 + (2 ^ 64 - 26)) % 2 ^ 64) × ((r2 * 12 + c2 + (2 ^ 64 - 26)) % 2 ^ 64 < 2 ^ 64))
    go (yes l) = inl (omega arith)
    go (no l) = inr (omega arith, omega arith)

off-near : (dir k : ℕ) → dir < 8 → k < 2 → Near (off_at dir k)
unfolding off_at
off-near dir k hd hk = let l = steps_low dir k hd hk in wrapped-near (row_of dir k) (col_of dir k) l.0 l.1

pub taps-near : (dir : ℕ) → dir < 8 → Near6 (taps_of dir)
unfolding taps_of
taps-near dir h = record {
  p0 = off-near dir 0 h (omega arith);
  p1 = off-near dir 1 h (omega arith);
  q0 = off-near ((dir + 2) % 8) 0 (omega arith) (omega arith);
  q1 = off-near ((dir + 2) % 8) 1 (omega arith) (omega arith);
  r0 = off-near ((dir + 6) % 8) 0 (omega arith) (omega arith);
  r1 = off-near ((dir + 6) % 8) 1 (omega arith) (omega arith);
}

-- ---- where they lead

past-wrap : (t : ℕ) → t < 2 ^ 64 → (t + 2 ^ 64) % 2 ^ 64 ≡ t
past-wrap t h = omega arith

module _ (i j r2 c2 : ℕ) (hi : i < 8) (hj : j < 8) (hr : r2 ≤ 4) (hc : c2 ≤ 4) where
  pub on-is : on_from ((i + 2) * 12 + 2 + j) (wrapped r2 c2) ≡ (i + r2) * 12 + (j + c2)
  unfolding on_from wrapped
  on-is = go (dec_le 26 (r2 * 12 + c2))
    where
      go : Dec (26 ≤ r2 * 12 + c2) → ((i + 2) * 12 + 2 + j + (r2 * 12 + c2 + (2 ^ 64 - 26)) % 2 ^ 64) % 2 ^ 64 ≡ (i + r2) * 12 + (j + c2)
      go (yes l) =
          let e : (r2 * 12 + c2 + (2 ^ 64 - 26)) % 2 ^ 64 ≡ r2 * 12 + c2 - 26 = omega arith in
          rw e (omega arith)
      go (no l) =
          let e : (r2 * 12 + c2 + (2 ^ 64 - 26)) % 2 ^ 64 ≡ r2 * 12 + c2 + (2 ^ 64 - 26) = omega arith in
          rw e (omega arith)

  pub back_at : back_from ((i + 2) * 12 + 2 + j) (wrapped r2 c2) ≡ (i + (4 - r2)) * 12 + (j + (4 - c2))
  unfolding back_from wrapped
  back_at = go (dec_le 26 (r2 * 12 + c2))
    where
      go : Dec (26 ≤ r2 * 12 + c2) → ((i + 2) * 12 + 2 + j + (2 ^ 64 - (r2 * 12 + c2 + (2 ^ 64 - 26)) % 2 ^ 64)) % 2 ^ 64 ≡ (i + (4 - r2)) * 12 + (j + (4 - c2))
      go (yes l) =
          let e : (r2 * 12 + c2 + (2 ^ 64 - 26)) % 2 ^ 64 ≡ r2 * 12 + c2 - 26 = omega arith in
          let g : (i + 2) * 12 + 2 + j + (2 ^ 64 - (r2 * 12 + c2 - 26)) ≡ (i + (4 - r2)) * 12 + (j + (4 - c2)) + 2 ^ 64 = omega arith in
          rw (e, g) (past-wrap ((i + (4 - r2)) * 12 + (j + (4 - c2))) (omega arith))
      go (no l) =
          let e : (r2 * 12 + c2 + (2 ^ 64 - 26)) % 2 ^ 64 ≡ r2 * 12 + c2 + (2 ^ 64 - 26) = omega arith in
          rw e (omega arith)

-- ---- row i and column j of a block, in its window

module _ (p : Plane) (b : Block) (i j : ℕ) (hh : b.height ≤ 8) (hw : b.width ≤ 8) (hi : i < b.height) (hj : j < b.width) where
  pub entry-is : (r c : ℕ) → r ≤ 4 → c ≤ 4 → get_or (upto (window_at p b) 144) ((i + r) * 12 + (j + c)) 0 ≡ sample_at p (b.y + i + r) (b.x + j + c)
  entry-is r c hr hc =
      let e : b.y + (i + r) ≡ b.y + i + r = omega arith in
      let f : b.x + (j + c) ≡ b.x + j + c = omega arith in
      get_or-upto (window_at p b) 144 ((i + r) * 12 + (j + c)) 0 (omega arith)
      ∙ window-in p b (i + r) (j + c) (omega arith) (omega arith) (omega arith)
      ∙ rw (e, f)

  pub centre-is : get_or (upto (window_at p b) 144) ((i + 2) * 12 + 2 + j) 0 ≡ sample_at p (b.y + i + 2) (b.x + j + 2)
  centre-is =
      let e : (i + 2) * 12 + 2 + j ≡ (i + 2) * 12 + (j + 2) = omega arith in
      rw e (entry-is 2 2 (omega arith) (omega arith))

  -- the tap forward, and the opposite one
  module _ (dir k c : ℕ) (hd : dir < 8) (hk : k < 2) where
    pub on-tap : tap_on (upto (window_at p b) 144) ((i + 2) * 12 + 2 + j) (off_at dir k) c ≡ or_centre (sample_at p (b.y + i + row_of dir k) (b.x + j + col_of dir k)) c
    unfolding tap_on off_at
    on-tap = let l = steps_low dir k hd hk in
        rw (on-is i j (row_of dir k) (col_of dir k) (omega arith) (omega arith) l.0 l.1, entry-is (row_of dir k) (col_of dir k) l.0 l.1)

    pub back-tap : tap_back (upto (window_at p b) 144) ((i + 2) * 12 + 2 + j) (off_at dir k) c ≡ or_centre (sample_at p (b.y + i + (4 - row_of dir k)) (b.x + j + (4 - col_of dir k))) c
    unfolding tap_back off_at
    back-tap = let l = steps_low dir k hd hk in
        rw (back_at i j (row_of dir k) (col_of dir k) (omega arith) (omega arith) l.0 l.1, entry-is (4 - row_of dir k) (4 - col_of dir k) (omega arith) (omega arith))

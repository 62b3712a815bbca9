-- Where the taps of a row lie.
use Rattle.std.specs.Prelude.{◌≡◌, ℕ, ◌+◌, ◌%◌, ◌^◌, ◌<◌, ◌≤◌}
use Rattle.std.proofs.Common.{arith}
use Rattle.filter_rows.specs.Place.{on_from, back_from}
use Rattle.filter_rows.specs.declared.Taps.{Taps}
use Rattle.plane_taps.specs.StepLaws.{on-near, back-near, on-more, back_more}
use Rattle.plane_taps.specs.Steps.{Reach, Reach6}
use Rattle.plane_taps.specs.Reach.{Reached, Reached6, Along, Around}

-- the index from which an offset leads to k
pub back_any : (k o r : ℕ) → o < 2 ^ 64 → r < 2 ^ 64 → (r + o) % 2 ^ 64 ≡ k → r ≡ back_from k o
unfolding back_from
back_any k o r ho hr e = omega arith

-- ---- one offset

module _ {len k n o : ℕ} (a : Along len k n o) (j : ℕ) (h : j < n) where
  along-fits : k + j + a.m < 2 ^ 63
  along-fits = omega (arith, a.high, a.small)

  reached : Reached len (k + j) o
  reached =
      let p = on-near a.m (k + j) o (omega (arith, a.low)) along-fits a.reach in
      let q = back-near a.m (k + j) o (omega (arith, a.low)) along-fits a.reach in
      record { on = omega (arith, p.0, a.high); back = omega (arith, q.0, a.high) }

  -- from an index further on
  pub on-along : on_from (k + j) o ≡ on_from k o + j
  on-along = on-more a.m k o a.low (omega (arith, along-fits)) a.reach j along-fits

  pub back-along : back_from (k + j) o ≡ back_from k o + j
  back-along = back_more a.m k o a.low (omega (arith, along-fits)) a.reach j along-fits

-- all n samples of the run lie in the list
module _ {len k n o : ℕ} (a : Along len k n o) where
  fits : k + a.m < 2 ^ 63
  fits = omega (arith, a.high, a.small)

  pub on-run : on_from k o + n ≤ len
  on-run = let p = on-near a.m k o a.low fits a.reach in omega (arith, p.0, a.high)

  pub back-run : back_from k o + n ≤ len
  back-run = let p = back-near a.m k o a.low fits a.reach in omega (arith, p.0, a.high)

-- ---- all six

pub reached-all : {len k n : ℕ} {t : Taps} → Around len k n t → (j : ℕ) → j < n → Reached6 len (k + j) t
reached-all a j h = record {
  p0 = reached a.p0 j h;
  p1 = reached a.p1 j h;
  q0 = reached a.q0 j h;
  q1 = reached a.q1 j h;
  r0 = reached a.r0 j h;
  r1 = reached a.r1 j h;
}

-- n samples from k on, and m more on each side
pub around-of : {m : ℕ} {t : Taps} → Reach6 m t → (len k n : ℕ) → m ≤ k → k + n + m ≤ len → len ≤ 2 ^ 24 → Around len k n t
around-of {m} r len k n lo hi sm =
    let a : (o : ℕ) → Reach m o → Along len k n o = λ o h. record { m = m; low = lo; high = hi; small = sm; reach = h } in
    record { p0 = a _ r.p0; p1 = a _ r.p1; q0 = a _ r.q0; q1 = a _ r.q1; r0 = a _ r.r0; r1 = a _ r.r1 }

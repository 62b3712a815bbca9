-- Where the sixteen samples and their taps lie.
use Rattle.std.specs.Prelude.{◌≡◌, ℕ, ◌+◌, ◌-◌, ◌*◌, ◌/◌, ◌%◌, ◌<◌, ◌≤◌, List}
use Rattle.std.proofs.Common.{⊎_elim, mul-le-mul_right, arith}
use Rattle.arith_sample.specs.Upto.{upto-ext}
use Rattle.filter_rows.specs.Place.{on_from, back_from}
use Rattle.plane_taps.specs.Reach.{Along}
use Rattle.plane_taps.specs.ReachLaws.{on-along, back-along}
use Rattle.plane_taps.specs.Runs.{Wide, at_by, run_by, on_by, back_by}

-- sample j lies before the run's end
four-in : (w j : ℕ) → j < 16 → j / 4 * w + j % 4 < 3 * w + 4
four-in w j h =
    let a : j / 4 ≤ 3 = omega arith in
    let b : j / 4 * w ≤ 3 * w = mul-le-mul_right w a in
    omega arith

eight-in : (w j : ℕ) → j < 16 → j / 8 * w + j % 8 < 1 * w + 8
eight-in w j h =
    let a : j / 8 ≤ 1 = omega arith in
    let b : j / 8 * w ≤ 1 * w = mul-le-mul_right w a in
    omega arith

module _ {n : ℕ} (h : Wide n) where
  pub run-in : (w j : ℕ) → j < 16 → j / n * w + j % n < (16 / n - 1) * w + n
  run-in w j l = ⊎_elim (λ e. rw e (four-in w j l)) (λ e. rw e (eight-in w j l)) h.is

  -- row i is one of the rows
  pub row-size : (i : ℕ) → i < 16 / n → i * n + n ≤ 16
  row-size i l = ⊎_elim (λ e. rw e (let m : i < 16 / 4 = rw e at l in omega arith)) (λ e. rw e (let m : i < 16 / 8 = rw e at l in omega arith)) h.is

  pub all-rows : 16 / n * n ≡ 16
  all-rows = ⊎_elim (λ e. rw e (omega arith)) (λ e. rw e (omega arith)) h.is

  -- sample j of row i
  pub place : (w k i j : ℕ) → j < n → at_by n w k (i * n + j) ≡ k + i * w + j
  unfolding at_by
  place w k i j l = ⊎_elim
      (λ e. rw e (let m : j < 4 = rw e at l in
      let a : (i * 4 + j) / 4 ≡ i = omega arith in
      let b : (i * 4 + j) % 4 ≡ j = omega arith in
      rw (a, b) (omega arith)))
      (λ e. rw e (let m : j < 8 = rw e at l in
      let a : (i * 8 + j) / 8 ≡ i = omega arith in
      let b : (i * 8 + j) % 8 ≡ j = omega arith in
      rw (a, b) (omega arith)))
      h.is

  module _ (l : List ℕ) (w : ℕ) {len k o : ℕ} (a : Along len k ((16 / n - 1) * w + n) o) where
    pub on-is : run_by n l w (on_from k o) ≡ on_by n l w k o
    unfolding run_by on_by at_by
    on-is = upto-ext _ _ 16 (λ j i. rw (on-along a (j / n * w + j % n) (run-in w j i)))

    pub back-is : run_by n l w (back_from k o) ≡ back_by n l w k o
    unfolding run_by back_by at_by
    back-is = upto-ext _ _ 16 (λ j i. rw (back-along a (j / n * w + j % n) (run-in w j i)))

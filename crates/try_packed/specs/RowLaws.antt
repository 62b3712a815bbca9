-- Laws of a block's samples row after row.
use Rattle.std.specs.Prelude.{◌≡◌, List, ℕ, zero, suc, ◌+◌, ◌*◌, ◌/◌, ◌%◌, ◌≤◌, ◌<◌, get_or, length, take}
use Rattle.std.proofs.Math.Path.{sym}
use Rattle.std.proofs.Common.{ap, ◌∙◌, ⊎_elim, mul_comm, mul-le-mul_right, zero-mul, suc-mul, div-add-mod', get_or-take}
use native.Mathlib.Omega.{arith}
use Rattle.std.proofs.Math.Arith.{digits_div, digits_mod, digits_lt}
use Rattle.cdef_spec.specs.Words.{sum, sum2}
use Rattle.cdef_spec.specs.WordsLaws.{sum_same, sum2-same}
use Rattle.cdef_spec.specs.GeometryLaws.{row_of}
use Rattle.cdef_spec.specs.Distance.{squared_difference, squares}
use Rattle.arith_numbers.specs.Packed.{Packed}
use Rattle.arith_numbers.specs.PackedLaws.{width_low, area}
use Rattle.arith_sample.specs.Upto.{get_or-upto}
use Rattle.distance_sums.specs.SumLaws.{sum_rows, sum-high, difference-high}
use Rattle.distance_sums.specs.Blocks.{at, Within}
use Rattle.try_packed.specs.Rows.{rows_of}

pub square-high : (a b : ℕ) → a < 4096 → b < 4096 → squared_difference a b ≤ 16769025
square-high a b h k = difference-high a b 4095 (omega arith) (omega arith)

-- not eight wide
pub packed-four : (rows cols : ℕ) → Packed cols rows → (cols ≡ 8 → ⊥) → cols ≡ 4
packed-four rows cols k n = ⊎_elim (λ e. e) (λ e. absurd (n e)) k.width

pub packed-wide : (rows cols : ℕ) → Packed cols rows → (4 ≤ cols) × (cols ≤ 8)
packed-wide rows cols k = ⊎_elim (λ e. (omega arith, omega arith)) (λ e. (omega arith, omega arith)) k.width

-- a row of the 64 entries
pub row_low : (rows cols i : ℕ) → Packed cols rows → i < rows → i * cols + cols ≤ 64
row_low rows cols i k h =
    let a : i * cols + cols ≤ rows * cols = let d : i + 1 ≤ rows = omega arith in omega (arith, mul-le-mul_right cols d) in
    omega (arith, area cols rows k, (width_low cols rows k).1)

-- what an iteration copies
pub stored : (s : List ℕ) (start pitch cols i j : ℕ) → j < cols → get_or s (start + i * pitch + j) 0 ≡ at s start pitch ((i * cols + j) / cols) ((i * cols + j) % cols)
unfolding at
stored s start pitch cols i j hj = rw (digits_div i {m = cols} {r = j} hj, digits_mod i {m = cols} {r = j} hj)

-- entry k of the packed samples
pub row_at : (s b : List ℕ) (start pitch rows cols k : ℕ) → take (rows * cols) b ≡ rows_of s start pitch rows cols → k < rows * cols → get_or b k 0 ≡ at s start pitch (k / cols) (k % cols)
unfolding rows_of
row_at s b start pitch rows cols k e h =
    sym (get_or-take (rows * cols) b k 0 h) ∙ rw e (get_or-upto (λ k. at s start pitch (k / cols) (k % cols)) (rows * cols) k 0 h)

-- a trial block's samples in order
pub run_at : (s : List ℕ) (from cols k : ℕ) → get_or s (from + k) 0 ≡ at s from cols (k / cols) (k % cols)
unfolding at
run_at s from cols k = let e : from + k ≡ from + k / cols * cols + k % cols = omega (arith, div-add-mod' k cols) in ap (λ (n : ℕ). get_or s n 0) e

module _ (o s a : List ℕ) (start pitch from rows cols : ℕ) (k : Packed cols rows) (e : take (rows * cols) a ≡ rows_of o start pitch rows cols) where
  abbrev f : ℕ → ℕ
  f n = squared_difference (get_or a n 0) (get_or s (from + n) 0)

  -- samples below 4096
  pub both-low : Within o start pitch rows cols 4096 → Within s from cols rows cols 4096 → (n : ℕ) → n < rows * cols → (get_or a n 0 < 4096) × (get_or s (from + n) 0 < 4096)
  both-low v w n h =
      let r = row_of cols rows n (rw (mul_comm cols rows) h) in
      (rw (row_at o a start pitch rows cols n e h) (v.low (n / cols) (n % cols) r.0 r.1), rw (run_at s from cols n) (w.low (n / cols) (n % cols) r.0 r.1))

  -- their squares are the block's
  pub rows-squares : sum (rows * cols) (λ n. squared_difference (get_or a n 0) (get_or s (from + n) 0)) ≡ squares rows cols (at o start pitch) (at s from cols)
  unfolding squares sum2
  rows-squares = sum_rows rows cols f ∙ sum2-same rows cols _ _ each
    where
      each : (i j : ℕ) → i < rows → j < cols → squared_difference (get_or a (i * cols + j) 0) (get_or s (from + (i * cols + j)) 0) ≡ squared_difference (at o start pitch i j) (at s from cols i j)
      each i j hi hj =
          let l : i * cols + j < rows * cols = digits_lt {q = i} {m = rows} {r = j} {c = cols} hi hj in
          rw (row_at o a start pitch rows cols (i * cols + j) e l, run_at s from cols (i * cols + j), digits_div i {m = cols} {r = j} hj, digits_mod i {m = cols} {r = j} hj)

-- the last row ends where the block does, and so does the last run
rows-held : (s : List ℕ) (from rows cols m : ℕ) → 0 < rows → Within s from cols rows cols m → from + rows * cols ≤ length s
rows-held s from zero cols m h w = absurd (omega arith)
rows-held s from (suc n) cols m h w = omega (arith, w.held n (omega arith), suc-mul n cols)

pub runs-held : (s : List ℕ) (from rows cols m : ℕ) → Within s from cols rows cols m → (i : ℕ) → i < cols * rows / 16 → from + i * 16 + 16 ≤ length s
runs-held s from zero cols m w i h = absurd (omega (arith, mul_comm cols 0, zero-mul cols))
runs-held s from (suc n) cols m w i h = omega (arith, mul_comm cols (suc n), rows-held s from (suc n) cols m (omega arith) w)

-- ---- n runs of sixteen
module _ (a s : List ℕ) (from : ℕ) where
  pub run_squares : ℕ → ℕ
  run_squares i = sum 16 (λ j. squared_difference (get_or a (i * 16 + j) 0) (get_or s (from + (i * 16 + j)) 0))

  -- run i, as the code computes it
  pub run_is : (i r : ℕ) → r ≡ sum 16 (λ j. squared_difference (get_or a (i * 16 + j) 0) (get_or s (from + i * 16 + j) 0)) → r ≡ run_squares i
  unfolding run_squares
  run_is i r e = e ∙ sum_same 16 _ _ (λ j h. let z : from + i * 16 + j ≡ from + (i * 16 + j) = omega arith in rw z)

  pub runs-all : (n : ℕ) → sum n run_squares ≡ sum (n * 16) (λ k. squared_difference (get_or a k 0) (get_or s (from + k) 0))
  unfolding run_squares
  runs-all n = sym (sum_rows n 16 (λ k. squared_difference (get_or a k 0) (get_or s (from + k) 0)))

  pub run-high : (i : ℕ) → ((j : ℕ) → j < 16 → (get_or a (i * 16 + j) 0 < 4096) × (get_or s (from + (i * 16 + j)) 0 < 4096)) → run_squares i ≤ 268304400
  unfolding run_squares
  run-high i h = sum-high 16 16769025 _ (λ j hj. square-high _ _ (h j hj).0 (h j hj).1)

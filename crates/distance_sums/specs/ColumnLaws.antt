-- The sum of 64 samples by columns.
use Rattle.std.specs.Prelude.{◌≡◌, List, ℕ, ◌+◌, ◌*◌, ◌≤◌, ◌<◌, get_or, length, set}
use Rattle.std.proofs.Math.Path.{refl}
use Rattle.std.proofs.Common.{sym, ◌∙◌, arith, length-set, get_or-set_same, get_or-set_other}
use Rattle.std.proofs.Math.Decide.{ℕ_discrete}
use Rattle.cdef_spec.specs.Words.{sum}
use Rattle.cdef_spec.specs.WordsLaws.{sum_same}
use Rattle.distance_sums.specs.SumLaws.{sum-none, sum_more, sum-high, sum-columns}
use Rattle.distance_sums.specs.Blocks.{Below, column_sum, Columns}

module _ (a : List ℕ) where
  pub column-low : (k n : ℕ) → Below a 4096 → k < 8 → n ≤ 8 → column_sum a k n ≤ n * 4095
  unfolding column_sum
  column-low k n b h l = sum-high n 4095 _ (λ i m. omega (arith, b.each (i * 8 + k) (omega arith)))

  column-none : (k : ℕ) → 0 ≡ column_sum a k 0
  unfolding column_sum
  column-none k = sum-none _

  column-more : (k n : ℕ) → column_sum a k n + get_or a (n * 8 + k) 0 ≡ column_sum a k (n + 1)
  unfolding column_sum
  column-more k n = sum_more _ n

  pub columns-none : (col : List ℕ) → length col ≡ 8 → ((k : ℕ) → k < 8 → get_or col k 0 ≡ 0) → Columns a col 0 0
  columns-none col e z = record { long = e; past = λ k h. absurd (omega arith); left = λ k h l. z k l ∙ column-none k }

  -- a sample added to its column
  pub columns-more : (col : List ℕ) (n j : ℕ) → j < 8 → Columns a col n j → Columns a (set col j (get_or col j 0 + get_or a (n * 8 + j) 0)) n (j + 1)
  columns-more col n j h c =
      record {
        long = length-set col j _ ∙ c.long;
        past = λ k l. at k l (ℕ_discrete k j);
        left = λ k l m. get_or-set_other col j k _ 0 (λ e. omega arith) ∙ c.left k (omega arith) m;
      }
    where
      at : (k : ℕ) → k < j + 1 → Dec (k ≡ j) → get_or (set col j (get_or col j 0 + get_or a (n * 8 + j) 0)) k 0 ≡ column_sum a k (n + 1)
      at k l (yes e) = rw e (get_or-set_same col j _ 0 (omega (arith, c.long)) ∙ rw (c.left j (omega arith) h) (column-more j n))
      at k l (no f) = get_or-set_other col j k _ 0 (λ e. f e) ∙ c.past k (omega arith)

  -- a row is done
  pub columns-row : (col : List ℕ) (n j : ℕ) → j ≡ 8 → Columns a col n j → Columns a col (n + 1) 0
  columns-row col n j e c = record { long = c.long; past = λ k h. absurd (omega arith); left = λ k h l. c.past k (omega arith) }

  -- all rows are done
  pub columns-eight : (col : List ℕ) (n : ℕ) → n ≡ 8 → Columns a col n 0 → Columns a col 8 0
  columns-eight col n e c = rw e at c

  column-all : (k : ℕ) → column_sum a k 8 ≡ sum 8 (λ i. get_or a (i * 8 + k) 0)
  unfolding column_sum
  column-all k = refl

  pub columns-all : (col : List ℕ) → Columns a col 8 0 → sum 8 (λ k. get_or col k 0) ≡ sum 64 (λ k. get_or a k 0)
  columns-all col c = sum_same 8 _ _ (λ k h. c.left k (omega arith) h ∙ column-all k) ∙ sym (sum-columns (λ k. get_or a k 0))

-- The totals block by block: what a counted block adds, what another leaves, and that no total becomes too large.
use Rattle.std.specs.Prelude.{◌≡◌, true, false, ℕ, ◌+◌, ◌*◌, ◌/◌, ◌%◌, pos, length, replicate}
use Rattle.std.proofs.Math.Path.{sym, ap}
use Rattle.std.proofs.Common.{◌∙◌}
use mathlib.Core.List.{List}
use Rattle.cdef_spec.specs.declared.SignalledDamping.{SignalledDamping}
use Rattle.cdef_spec.specs.declared.Visible.{Visible}
use Rattle.cdef_spec.specs.Words.{table}
use Rattle.cdef_spec.specs.Picture.{Picture, block_rows, block_cols, units, unit_at, counted, tried_total}
use Rattle.cdef_spec.specs.LoopForm.{signed, add_turns}
use Rattle.cdef_spec.specs.TotalLaws.{length-signed, length-try-row, length-try-rows, length-zeros, signed-zeros, signed-table, try-is}
use Rattle.arith_totals.specs.FoldLaws.{try-row-none, try-row-more, try-row-pass, try-rows-none, try-rows-more}
use Rattle.try_one.specs.Trying.{tried_distance, tried_rows, tried_blocks}

-- ---- block by block

module _ (q : Picture) (d : SignalledDamping) (v : Visible) (snapshot original : List ℕ) where
  pub blocks-none : (m : ℕ) → tried_rows q d v snapshot original m ≡ tried_blocks q d v snapshot original m 0
  unfolding tried_blocks
  blocks-none m = sym (try-row-none q v (tried_distance q d v snapshot original) m (tried_rows q d v snapshot original m))

  pub blocks-all : (m n : ℕ) → n ≡ block_cols q → tried_blocks q d v snapshot original m n ≡ tried_rows q d v snapshot original (m + 1)
  unfolding tried_blocks tried_rows
  blocks-all m n e = rw e (sym (try-rows-more q v (tried_distance q d v snapshot original) (replicate (12 * units q) 0) m))

  pub blocks-pass : (m n : ℕ) → counted q v m n ≡ false → tried_blocks q d v snapshot original m n ≡ tried_blocks q d v snapshot original m (n + 1)
  unfolding tried_blocks
  blocks-pass m n e = sym (try-row-pass q v (tried_distance q d v snapshot original) m (tried_rows q d v snapshot original m) n e)

  pub blocks_more : (m n : ℕ) → counted q v m n ≡ true → add_turns (tried_blocks q d v snapshot original m n) (12 * unit_at q m n) (tried_distance q d v snapshot original m n) 12 ≡ tried_blocks q d v snapshot original m (n + 1)
  unfolding tried_blocks
  blocks_more m n e = sym (try-row-more q v (tried_distance q d v snapshot original) m (tried_rows q d v snapshot original m) n e)

  pub blocks-long : (m n : ℕ) → length (signed (tried_blocks q d v snapshot original m n)) ≡ 12 * units q
  unfolding tried_blocks tried_rows
  blocks-long m n = length-signed _ ∙ length-try-row q v _ m _ n ∙ length-try-rows q v _ _ m ∙ length-zeros (12 * units q)

  -- from zeros on
  pub rows_none : (n : ℕ) → n ≡ 12 * units q → replicate n (pos 0) ≡ signed (tried_rows q d v snapshot original 0)
  unfolding tried_rows
  rows_none n e = rw (e, try-rows-none q v (tried_distance q d v snapshot original) (replicate (12 * units q) 0)) (signed-zeros (12 * units q))

  -- to the totals of RULES, Frame
  pub rows_all : (m : ℕ) → m ≡ block_rows q → signed (tried_rows q d v snapshot original m) ≡ table (12 * units q) (λ k. pos (tried_total q d v snapshot original (k / 12) (k % 12)))
  unfolding tried_rows tried_total tried_distance
  rows_all m e = rw e (ap signed (try-is q v (tried_distance q d v snapshot original)) ∙ signed-table (12 * units q) _)

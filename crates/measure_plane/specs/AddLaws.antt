-- Totals: one block, one row of blocks, all rows.
use Rattle.std.specs.Prelude.{◌≡◌, true, false, List, ℕ, ◌+◌, ◌^◌, ◌≤◌, ◌<◌, ℤ, pos, replicate}
use Rattle.std.proofs.Common.{add-one, ap, sym, ◌∙◌, arith}
use Rattle.cdef_spec.specs.declared.UnitPair.{UnitPair}
use Rattle.cdef_spec.specs.declared.Visible.{Visible}
use Rattle.cdef_spec.specs.Lent.{plane_in_full}
use Rattle.cdef_spec.specs.Words.{table}
use Rattle.cdef_spec.specs.Picture.{Picture, counted, unit_at, block_rows, block_cols, units, measured_total}
use Rattle.cdef_spec.specs.LoopForm.{signed, add_at, measure_row, measure_rows}
use Rattle.cdef_spec.specs.TotalLaws.{signed-zeros, signed-table, measure-is}
use Rattle.arith_totals.specs.FoldLaws.{measure-rows-more}
use Rattle.arith_totals.specs.TotalBounds.{measure-low}
use Rattle.frame_shape.specs.declared.inputs.CompareInput.{CompareInput}
use Rattle.frame_shape.specs.Checked.{compare_in}
use Rattle.measure_plane.specs.Measure.{SmallRow, measure_one, measured_distance}
use Rattle.measure_plane.specs.Measure.{distance_in, rows_measured}
use Rattle.measure_plane.specs.DistanceLaws.{measured-low}

-- ---- one iteration

module _ (q : Picture) (v : Visible) (dist : ℕ → ℕ → ℕ) (by bx : ℕ) (z : List ℕ) where
  pub one-counted : counted q v by bx ≡ true → measure_one q v dist by bx z ≡ add_at z (unit_at q by bx) (dist by bx)
  unfolding measure_one
  one-counted e = rw e

  pub one-passed : counted q v by bx ≡ false → measure_one q v dist by bx z ≡ z
  unfolding measure_one
  one-passed e = rw e

pub row_step : (q : Picture) (v : Visible) (dist : ℕ → ℕ → ℕ) (by : ℕ) (z : List ℕ) (n : ℕ) → measure_row q v dist by z (n + 1) ≡ measure_one q v dist by n (measure_row q v dist by z n)
unfolding measure_row measure_one
row_step q v dist by z n = rw (add-one n)

module _ (i : CompareInput) (p : UnitPair) where
  abbrev q : Picture
  q = compare_in i

  -- a row of blocks more
  pub rows_step : (m : ℕ) → measure_row q i.visible (distance_in i p) m (rows_measured i p m) (block_cols q) ≡ rows_measured i p (m + 1)
  rows_step m = sym (measure-rows-more q i.visible (distance_in i p) _ m)

  -- no total grows too large
  pub row_small : (by : ℕ) → by < block_rows q → SmallRow q i.visible (distance_in i p) by (rows_measured i p by)
  unfolding plane_in_full
  row_small by hy = record { turn = λ n hn. record { each = λ u. measure-low q i.visible (distance_in i p) (2 ^ 53) (λ m k hm hk e. low m k hm hk) by n u hy hn } }
    where
      low : (m k : ℕ) → m < block_rows q → k < block_cols q → distance_in i p m k ≤ 2 ^ 53
      low m k hm hk = omega (arith, measured-low q i.filter.listed.shaped.shaped i.visible m k hm hk i.filter.damping p (plane_in_full i.filter.plane) (plane_in_full i.original) i.filter.sampled i.original_sampled)

  pub totals-none : (n : ℕ) → n ≡ units q → replicate n (pos 0) ≡ signed (rows_measured i p 0)
  unfolding measure_rows
  totals-none n e = rw e (signed-zeros (units q))

  pub totals-all : (l : List ℤ) → l ≡ signed (rows_measured i p (block_rows q)) → l ≡ table (units q) (λ u. pos (measured_total q i.filter.damping i.visible i.filter.plane.samples.now i.original.samples.now p u))
  unfolding measured_total measured_distance
  totals-all l e = e ∙ ap signed (measure-is q i.visible (distance_in i p)) ∙ signed-table (units q) _

-- What measuring adds up, in the code's form. Definitions only.
use Rattle.std.specs.Prelude.{◌≡◌, cond, List, ℕ, ◌+◌, ◌-◌, ◌*◌, ◌^◌, ◌≤◌, ◌<◌, get_or, replicate}
use Rattle.cdef_spec.specs.declared.SignalledDamping.{SignalledDamping}
use Rattle.cdef_spec.specs.declared.UnitPair.{UnitPair}
use Rattle.cdef_spec.specs.declared.Visible.{Visible}
use Rattle.cdef_spec.specs.Document01.{mark, or_else}
use Rattle.cdef_spec.specs.Picture.{Picture, is_off, plane_width, units, block_cols, block_width, block_height, unit_at, counted, at_place, filtered_by, block_distance}
use Rattle.cdef_spec.specs.LoopForm.{add_at, measure_row, measure_rows}
use Rattle.arith_totals.specs.Small.{Small}
use Rattle.frame_shape.specs.declared.inputs.CompareInput.{CompareInput}
use Rattle.frame_shape.specs.Checked.{compare_in}

-- the sample at row r and column c of the plane, in a block's rows, whose first is the plane's row y
unfoldable pub row_sample : Picture → List ℕ → ℕ → ℕ → ℕ → ℕ
row_sample q rows y r c = get_or rows ((r - y) * plane_width q + c) 0

-- the scratch holds the filtered block (by, bx)
unfoldable pub Filled : Picture → SignalledDamping → List ℕ → UnitPair → ℕ → ℕ → List ℕ → Type 0
Filled q d plane p by bx scratch =
    (i j : ℕ) → i < block_height q → j < block_width q → get_or scratch (i * plane_width q + (bx * block_width q + j)) 0 ≡ or_else mark (filtered_by q d plane p by bx (by * block_height q + i) (bx * block_width q + j))

-- in a block's rows, the samples of the block in column bx are of the depth
pub record LowBlock (q : Picture) (bx : ℕ) (rows : List ℕ) : Type 0 where
  pub each : (i j : ℕ) → i < block_height q → j < block_width q → get_or rows (i * plane_width q + (bx * block_width q + j)) 0 < 2 ^ q.depth

-- the distance of the block (by, bx), filtered or, with 0, 0, unfiltered
unfoldable pub measured_distance : Picture → SignalledDamping → Visible → List ℕ → List ℕ → UnitPair → ℕ → ℕ → ℕ
measured_distance q d v plane original p by bx = block_distance q v by bx (at_place q original) (λ r c. cond (is_off p) (at_place q plane r c) (or_else mark (filtered_by q d plane p by bx r c)))

-- at every iteration over a row of blocks
pub record SmallRow (q : Picture) (v : Visible) (dist : ℕ → ℕ → ℕ) (by : ℕ) (z : List ℕ) : Type 0 where
  pub turn : (n : ℕ) → n ≤ block_cols q → Small (measure_row q v dist by z n)

-- one iteration: a counted block adds its distance
unfoldable pub measure_one : Picture → Visible → (ℕ → ℕ → ℕ) → ℕ → ℕ → List ℕ → List ℕ
measure_one q v dist by bx z = cond (counted q v by bx) (add_at z (unit_at q by bx) (dist by bx)) z

-- ---- of a checked input

-- the distance of the block (by, bx), filtered with a pair or, with 0, 0, unfiltered
abbrev pub distance_in : CompareInput → UnitPair → ℕ → ℕ → ℕ
distance_in i p = measured_distance (compare_in i) i.filter.damping i.visible i.filter.plane.samples.now i.original.samples.now p

-- the totals after m rows of blocks
abbrev pub rows_measured : CompareInput → UnitPair → ℕ → List ℕ
rows_measured i p m = measure_rows (compare_in i) i.visible (distance_in i p) (replicate (units (compare_in i)) 0) m

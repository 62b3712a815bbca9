-- The taps of a direction as wrapped offsets. Definitions only.
use Rattle.std.specs.Prelude.{ℕ, ◌+◌, ◌-◌, ◌*◌, ◌%◌, ◌^◌, ◌<◌, ◌≤◌, ◌⊎◌}
use Rattle.cdef_spec.specs.CodeForm.{row_of, col_of}
use Rattle.filter_rows.specs.declared.Taps.{Taps}

-- a step of r2 - 2 rows and c2 - 2 columns, where rows are w entries apart and columns p, as a wrapped usize
unfoldable pub wrapped_step : ℕ → ℕ → ℕ → ℕ → ℕ
wrapped_step w p r2 c2 = (r2 * w + c2 * p + (2 ^ 64 - (2 * w + 2 * p))) % 2 ^ 64

-- the near (k = 0) and the far step of a direction
unfoldable pub step_by : ℕ → ℕ → ℕ → ℕ → ℕ
step_by w p dir k = wrapped_step w p (row_of dir k) (col_of dir k)

-- of the primary direction (p), and of the secondary ones, 2 (q) and 6 (r) further
unfoldable pub taps_by : ℕ → ℕ → ℕ → Taps
taps_by w p dir = record {
  p0 = step_by w p dir 0;
  p1 = step_by w p dir 1;
  q0 = step_by w p ((dir + 2) % 8) 0;
  q1 = step_by w p ((dir + 2) % 8) 1;
  r0 = step_by w p ((dir + 6) % 8) 0;
  r1 = step_by w p ((dir + 6) % 8) 1;
}

-- in a plane w wide
abbrev pub step_in : ℕ → ℕ → ℕ → ℕ
step_in w dir k = step_by w 1 dir k

abbrev pub taps_in : ℕ → ℕ → Taps
taps_in w dir = taps_by w 1 dir

-- at most m forward or back, as a wrapped usize
pub record Reach (m o : ℕ) : Type 0 where
  pub reach : (o ≤ m) ⊎ ((2 ^ 64 - m ≤ o) × (o < 2 ^ 64))

pub record Reach6 (m : ℕ) (t : Taps) : Type 0 where
  pub p0 : Reach m t.p0
  pub p1 : Reach m t.p1
  pub q0 : Reach m t.q0
  pub q1 : Reach m t.q1
  pub r0 : Reach m t.r0
  pub r1 : Reach m t.r1

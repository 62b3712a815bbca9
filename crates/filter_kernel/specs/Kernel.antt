-- The kernel in the code's form: offsets of the taps in a window of pitch 12, strengths with their shifts, and a sample of the window filtered. Definitions only.
use Rattle.std.specs.Prelude.{cond, List, ℕ, ◌+◌, ◌-◌, ◌*◌, ◌/◌, ◌%◌, ◌^◌, min, eqb, get_or}
use Rattle.cdef_spec.specs.Standard.{floor_log2}
use Rattle.cdef_spec.specs.CodeForm.{row_of, col_of}
use Rattle.arith_sample.specs.Sample.{free_of}
use Rattle.filter_rows.specs.declared.Taps.{Taps}
use Rattle.filter_rows.specs.declared.Strength.{Strength}
use Rattle.filter_rows.specs.Sums.{pri_at, sec_at, filtered_at}

-- a step of r2 - 2 rows and c2 - 2 columns, as a wrapped number
unfoldable pub wrapped : ℕ → ℕ → ℕ
wrapped r2 c2 = (r2 * 12 + c2 + (2 ^ 64 - 26)) % 2 ^ 64

-- the near (k = 0) and the far (k = 1) step of a direction
unfoldable pub off_at : ℕ → ℕ → ℕ
off_at dir k = wrapped (row_of dir k) (col_of dir k)

-- those of a direction, of the one 2 further and of the one 6 further
unfoldable pub taps_of : ℕ → Taps
taps_of dir = record {
  p0 = off_at dir 0;
  p1 = off_at dir 1;
  q0 = off_at ((dir + 2) % 8) 0;
  q1 = off_at ((dir + 2) % 8) 1;
  r0 = off_at ((dir + 6) % 8) 0;
  r1 = off_at ((dir + 6) % 8) 1;
}

-- the shift of a strength s at damping d, capped at 15: no difference reaches 2 ^ 15, a mark's neither
unfoldable pub shift_of : ℕ → ℕ → ℕ
shift_of s d = min (d - floor_log2 s) 15

-- a primary and a secondary strength with its weights
unfoldable pub pri_of : ℕ → ℕ → ℕ → Strength
pri_of s d depth = record { s = s; sh = shift_of s d; w0 = 4 - s / 2 ^ (depth - 8) % 2; w1 = 2 + s / 2 ^ (depth - 8) % 2 }

unfoldable pub sec_of : ℕ → ℕ → Strength
sec_of s d = record { s = s; sh = shift_of s d; w0 = 2; w1 = 1 }

-- the sample at index k of the window, filtered: the taps of a strength 0 are left out, and nothing is then clipped
unfoldable pub kernel_at : List ℕ → ℕ → Taps → Strength → Strength → ℕ
kernel_at w k t f g =
    cond (eqb f.s 0)
    (cond (eqb g.s 0) (get_or w k 0) (free_of (get_or w k 0) (sec_at w k t g)))
    (cond (eqb g.s 0) (free_of (get_or w k 0) (pri_at w k t f)) (filtered_at w k t f g))

-- What the block filter stores in a destination whose rows are the plane's. Definitions only.
use Rattle.std.specs.Prelude.{ℕ, ◌+◌, ◌-◌, ◌*◌, ◌≤◌, ◌<◌, max, List}
use Rattle.cdef_spec.specs.declared.FilterParams.{FilterParams}
use Rattle.cdef_spec.specs.Standard.{Tap}
use Rattle.cdef_spec.specs.Document01.{unmarked}
use Rattle.filter_rows.specs.declared.Taps.{Taps}
use Rattle.filter_rows.specs.declared.Strength.{Strength}
use Rattle.filter_kernel.specs.Kernel.{taps_of, pri_of, sec_of, kernel_at}

-- the kernel's samples of a window, from row y and column x on
unfoldable pub window_tap : List ℕ → Taps → Strength → Strength → ℕ → ℕ → ℕ → ℕ → Tap
window_tap w t f g y x r c = unmarked (kernel_at w ((r - y + 2) * 12 + 2 + (c - x)) t f g)

-- with the strengths, direction and damping of q; a damping of 0 counts as 1
unfoldable pub block_tap : List ℕ → FilterParams → ℕ → ℕ → ℕ → ℕ → Tap
block_tap w q y x = window_tap w (taps_of q.dir) (pri_of q.pri (max 1 q.damping.0) q.depth) (sec_of q.sec (max 1 q.damping.0)) y x

-- what parameters that pass questions 1 and 8 satisfy; strengths up to 240, which is 15 << 4, at every depth: wider than question 8
pub record Usable (q : FilterParams) : Type 0 where
  pub pri : q.pri ≤ 240
  pub sec : q.sec ≤ 240
  pub dir : q.dir < 8
  pub damping : q.damping.0 ≤ 31
  pub deep : 8 ≤ q.depth
  pub flat : q.depth ≤ 12

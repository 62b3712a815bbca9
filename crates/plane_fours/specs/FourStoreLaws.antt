-- Four rows of four samples, stored.
use Rattle.std.specs.Prelude.{◌≡◌, ℕ, ◌+◌, ◌*◌, ◌/◌, ◌%◌, ◌<◌, List, slice_index}
use native.Mathlib.Omega.{arith}
use Rattle.cdef_spec.specs.LoopForm.{put_block}
use Rattle.arith_sample.specs.Upto.{upto, get_or-upto}
use Rattle.filter_rows.specs.Sums.{InRange}
use Rattle.filter_rows.specs.declared.Taps.{Taps}
use Rattle.filter_rows.specs.declared.Strength.{Strength}
use Rattle.filter_kernel.specs.Kernel.{kernel_at}
use Rattle.plane_taps.specs.Plain.{AllLow}
use Rattle.plane_rows.specs.Rows.{placed_rows, inside_tap}
use Rattle.plane_rows.specs.StoreLaws.{rows_inside}
use Rattle.plane_taps.specs.Runs.{at_by}
use Rattle.plane_fours.specs.Fours.{four_at}

module _ (l : List ℕ) (low : AllLow l) (w at : ℕ) (t : Taps) (f g : Strength) (rf : InRange f) (rg : InRange g) where
  entry : (v : List ℕ) (n j : ℕ) → n < 4 → j < 4 → v ≡ upto (λ j. kernel_at l (four_at w at j) t f g) 16 → slice_index v (n * 4 + j) ≡ kernel_at l (at + n * w + j) t f g
  unfolding at_by
  entry v n j hn k h =
      let a : (n * 4 + j) / 4 ≡ n = omega arith in
      let b : (n * 4 + j) % 4 ≡ j = omega arith in
      let s : at + (n * w + j) ≡ at + n * w + j = omega arith in
      rw (h, get_or-upto (λ (j : ℕ). kernel_at l (at + (j / 4 * w + j % 4)) t f g) 16 (n * 4 + j) 0 (omega arith), a, b, s)

  pub four-inside : (d v : List ℕ) (to y x : ℕ) → to ≡ y * w + x → v ≡ upto (λ j. kernel_at l (four_at w at j) t f g) 16 → placed_rows d w to v 4 4 ≡ put_block d w (inside_tap l w at t f g y x) y x 4 4
  four-inside d v to y x e h = rows_inside l low w at t f g rf rg d v to y x 4 4 e (record { all = λ i j hi hj. entry v i j hi hj h })

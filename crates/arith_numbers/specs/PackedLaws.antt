-- Laws of blocks whose samples fill runs of sixteen.
use Rattle.std.specs.Prelude.{◌≡◌, ℕ, ◌*◌, ◌/◌, ◌≤◌, ◌<◌}
use Rattle.std.proofs.Common.{⊎_elim, mul-le-mul_right, mul_comm, arith}
use Rattle.arith_numbers.specs.Packed.{Packed}

module _ (w h : ℕ) (k : Packed w h) where
  pub width_low : (0 < w) × (w ≤ 8)
  width_low = ⊎_elim (λ e. (omega arith, omega arith)) (λ e. (omega arith, omega arith)) k.width

  -- in runs
  pub runs-are : w * h / 16 * 16 ≡ h * w
  runs-are = omega (arith, k.whole, mul_comm w h)

  pub area : h * w ≤ 8 * w
  area = mul-le-mul_right w k.height

  pub few : w * h / 16 ≤ 4
  few = omega (arith, width_low.1, area, mul_comm w h)

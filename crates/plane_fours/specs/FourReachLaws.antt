-- Where four rows lie.
use Rattle.std.specs.Prelude.{ℕ, ◌*◌, ◌<◌, ◌≤◌}
use Rattle.std.proofs.Common.{mul-le-mul_right, arith}

-- a row of four before the run's end
pub row_low : (w i : ℕ) → i < 4 → i * w ≤ 3 * w
row_low w i h = let a : i ≤ 3 = omega arith in mul-le-mul_right w a

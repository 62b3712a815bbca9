-- Totals so small that a distance can be added. Definitions only.
use Rattle.std.specs.Prelude.{List, ℕ, ◌*◌, ◌^◌, ◌≤◌, get_or}

pub record Small (z : List ℕ) : Type 0 where
  pub each : (u : ℕ) → get_or z u 0 ≤ 64 * 2 ^ 53

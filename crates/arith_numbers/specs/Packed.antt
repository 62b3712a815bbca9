-- Blocks four or eight wide whose samples, row after row, fill runs of sixteen. Definitions only.
use Rattle.std.specs.Prelude.{◌⊎◌, ◌≡◌, ℕ, ◌*◌, ◌%◌, ◌≤◌}

pub record Packed (w h : ℕ) : Type 0 where
  pub width : (w ≡ 4) ⊎ (w ≡ 8)
  pub height : h ≤ 8
  pub whole : w * h % 16 ≡ 0

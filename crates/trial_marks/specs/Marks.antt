-- Marks that count as values: a mark is 16384 - 4095 = 12289 or more from every sample, and with a quiet strength such a difference is constrained to 0. Definitions only.
use Rattle.std.specs.Prelude.{◌≡◌, ℕ, ◌*◌, ◌^◌, ◌≤◌}
use Rattle.filter_rows.specs.declared.Strength.{Strength}

-- a strength and its shift, for which a difference of 12288 or more is constrained to 0
pub record Quiet (s sh : ℕ) : Type 0 where
  pub quiet : s * 2 ^ sh ≤ 12288

-- a quiet secondary strength: its weights are 2 and 1
pub record Side (g : Strength) : Type 0 where
  pub quiet : Quiet g.s g.sh
  pub w0 : g.w0 ≡ 2
  pub w1 : g.w1 ≡ 1

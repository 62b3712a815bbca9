-- Blocks two samples or more inside a plane, as a test. Definitions only.
use Rattle.std.specs.Prelude.{Bool, ◌&&◌, ℕ, ◌+◌, leb}

-- two samples or more inside a plane w by h (x before y, as in Block)
unfoldable pub inner_block : ℕ → ℕ → ℕ → ℕ → ℕ → ℕ → Bool
inner_block w h x y bw bh = (leb 2 x && leb 2 y) && (leb (x + bw + 2) w && leb (y + bh + 2) h)

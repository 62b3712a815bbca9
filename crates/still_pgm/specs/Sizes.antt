-- Which pictures are accepted, and their padded sizes. Definitions only.
use Rattle.std.specs.Prelude.{ℕ, ◌+◌, ◌-◌, ◌*◌, ◌/◌, ◌^◌, Bool, cond, ◌&&◌, leb, eqb, Option, Some, None}

-- the depth of a maximum 2 ^ depth - 1, for depth 8 to 12; none for every other maximum
unfoldable pub depth_of : ℕ → Option ℕ
depth_of m =
    cond (eqb m (2 ^ 8 - 1)) (Some 8)
    (cond (eqb m (2 ^ 9 - 1)) (Some 9)
    (cond (eqb m (2 ^ 10 - 1)) (Some 10)
    (cond (eqb m (2 ^ 11 - 1)) (Some 11)
    (cond (eqb m (2 ^ 12 - 1)) (Some 12) None))))

-- the bytes of a sample
unfoldable pub step_of : ℕ → ℕ
step_of m = cond (leb m 255) 1 2

-- a side made a multiple of 8
abbrev pub padded : ℕ → ℕ
padded side = (side + 7) / 8 * 8

-- a side of 1 to 4,096
unfoldable pub is_side : ℕ → Bool
is_side side = leb 1 side && leb side 4096

-- two sides, and at most 786,432 samples once padded
unfoldable pub is_taken : ℕ → ℕ → Bool
is_taken w h = is_side w && (is_side h && leb (padded w * padded h) 786432)

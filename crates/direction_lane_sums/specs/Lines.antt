-- The line sums of eight blocks in lanes, as the code adds them. Definitions only.
use Rattle.std.specs.Prelude.{ℕ, zero, suc, set, ◌+◌, ◌-◌, ◌*◌, ◌/◌, ◌%◌, cond, ◌&&◌, List, leb, ltb, get_or, ℤ, pos, ◌+ℤ◌}
use Rattle.cdef_spec.specs.Words.{sum_ℤ}
use Rattle.arith_sample.specs.Upto.{upto}
use Rattle.direction_lane_sums.specs.declared.Step.{Step}
use Rattle.direction_lane_sums.specs.declared.Step.TheVariants.{Same, Next, Back}

-- sample (i, j) of block l, where s holds it at 64 i + 8 j + l
unfoldable pub lane_of : List ℤ → ℕ → ℕ → ℕ → ℤ
lane_of s l i j = get_or s (i * 64 + j * 8 + l) (pos 0)

-- sums of two neighbouring rows (down 128, on 8, next 64) or columns (16, 64, 8): block l's at 64 r + 8 c + l
unfoldable pub neighbour_sum : List ℤ → ℕ → ℕ → ℕ → ℤ
neighbour_sum s at next l = get_or s (at + l) (pos 0) +ℤ get_or s (at + next + l) (pos 0)

unfoldable pub neighbour_sums : List ℤ → ℕ → ℕ → ℕ → List ℤ
neighbour_sums s down on next = upto (λ k. neighbour_sum s (k / 64 * down + k / 8 % 8 * on) next (k % 8)) 256

-- what the first n entries of z from `from` on add to entry m, where they are added from `to` on
unfoldable pub added_at : List ℤ → ℕ → ℕ → ℕ → ℕ → ℤ
added_at z to from n m = cond (leb to m && ltb m (to + n)) (get_or z (from + (m - to)) (pos 0)) (pos 0)

unfoldable pub added_of : List ℤ → List ℤ → ℕ → ℕ → List ℤ
added_of p z to from = upto (λ m. get_or p m (pos 0) +ℤ added_at z to from 64 m) 128

-- n entries of z added to the first of p
unfoldable pub sums_of : List ℤ → List ℤ → ℕ → List ℤ
sums_of p z zero = p
sums_of p z (suc n) = set (sums_of p z n) n (get_or p n (pos 0) +ℤ get_or z n (pos 0))

-- the line on which row i starts: each row on line `first`, or one line after the row before, or one line before it
unfoldable pub place_of : ℕ → ℕ → ℕ → Step → ℕ
place_of i rows first Same = first
place_of i rows first Next = first + i
place_of i rows first Back = first + (rows - 1 - i)

-- the sums of the lines, block l's of line n at 8 n + l. Direction 4 is summed with its lines in reverse, n at 14 - n, at the same cost
unfoldable pub lane_lines : List ℤ → ℕ → ℕ → Step → List ℤ
lane_lines z rows first step = upto (λ m. sum_ℤ rows (λ i. added_at z (place_of i rows first step * 8) (i * 64) 64 m)) 128

-- line n of lane l
unfoldable pub lane_line : List ℤ → ℕ → ℕ → ℤ
lane_line p l n = get_or p (n * 8 + l) (pos 0)

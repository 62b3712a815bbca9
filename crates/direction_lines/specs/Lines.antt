-- The line sums as the code adds them. Definitions only.
use Rattle.std.specs.Prelude.{ℕ, ◌+◌, ◌-◌, ◌*◌, ◌/◌, ◌%◌, cond, ◌&&◌, List, leb, ltb, get_or, ℤ, pos, ◌+ℤ◌}
use Rattle.cdef_spec.specs.Standard.{partial}
use Rattle.arith_sample.specs.Upto.{upto}
use Rattle.direction_lines.specs.declared.Partials.{Partials}

-- a block, transposed
unfoldable pub turned_of : List ℤ → List ℤ
turned_of b = upto (λ k. get_or b (k % 8 * 8 + k / 8) (pos 0)) 64

-- row i of a block with eight zeros on each side
unfoldable pub pad_at : List ℤ → ℕ → ℕ → ℤ
pad_at b i j = cond (leb 8 j && ltb j 16) (get_or b (i * 8 + (j - 8)) (pos 0)) (pos 0)

unfoldable pub padded_of : List ℤ → List ℤ
padded_of b = upto (λ k. pad_at b (k / 24) (k % 24)) 192

-- the sum of two rows, and of eight
unfoldable pub pair_at : List ℤ → ℕ → ℕ → ℤ
pair_at z k one = get_or z k (pos 0) +ℤ get_or z (k + one) (pos 0)

unfoldable pub line_at : List ℤ → ℕ → ℕ → ℕ → ℤ
line_at z k one two = (pair_at z k one +ℤ pair_at z (k + two) one) +ℤ (pair_at z (k + 2 * two) one +ℤ pair_at z (k + 3 * two) one)

unfoldable pub lines_of : List ℤ → ℕ → ℕ → ℕ → List ℤ
lines_of z first one two = upto (λ n. line_at z (first + n) one two) 16

-- the standard's line sums of a block
unfoldable pub partials_of : (ℕ → ℕ → ℤ) → Partials
partials_of x = record {
  d0 = upto (partial x 0) 16;
  d1 = upto (partial x 1) 16;
  d2 = upto (partial x 2) 16;
  d3 = upto (partial x 3) 16;
  d4 = upto (partial x 4) 16;
  d5 = upto (partial x 5) 16;
  d6 = upto (partial x 6) 16;
  d7 = upto (partial x 7) 16;
}

-- The costs of eight blocks in lanes, in the code's form. Definitions only.
use Rattle.std.specs.Prelude.{◌≡◌, cond, List, ℕ, zero, suc, ◌+◌, ◌-◌, ◌*◌, ◌/◌, ◌%◌, ◌≤◌, ◌<◌, eqb, get_or, set, take, length, ℤ}
use Rattle.cdef_spec.specs.Standard.{square, cost}
use Rattle.arith_sample.specs.Upto.{upto}
use Rattle.direction_lane_costs.specs.declared.Lines.{Lines}
use Rattle.direction_lane_costs.specs.declared.Lines.TheVariants.{Straight, Between, Diagonal}
use Rattle.direction_lane_sums.specs.Lines.{lane_of, lane_line}

-- lines n and 14 - n side by side
unfoldable pub end_at : List ℤ → ℕ → ℤ
end_at p k = lane_line p (k / 2 % 8) (cond (eqb (k % 2) 0) (k / 16) (14 - k / 16))

unfoldable pub ends_of : List ℤ → List ℤ
ends_of p = upto (end_at p) 128

-- the sum of their squares
unfoldable pub end_squares : List ℤ → ℕ → ℕ → ℕ
end_squares p l n = square (lane_line p l n) + square (lane_line p l (14 - n))

unfoldable pub squares_of : List ℤ → List ℕ
squares_of p = upto (λ k. end_squares p (k % 8) (k / 8)) 64

-- costs from the squares of lines n and 14 - n (a those of n = 0, h those of 7), each times 840 / (samples on the line);
-- 840 / 1, 2, 4 are 8, 4, 2 times 840 / 8, and 840 / 3 twice 840 / 6.
-- Straight: lines 0 to 7. Between: lines 2 to 12, the standard's 0 to 10. Diagonal: lines 0 to 14.
abbrev pub straight_of : ℕ → ℕ → ℕ → ℕ → ℕ → ℕ → ℕ → ℕ → ℕ
straight_of a b c d e f g h = (a + b + c + d + (e + f + g + h)) * (840 / 8)

abbrev pub between_of : ℕ → ℕ → ℕ → ℕ → ℕ → ℕ → ℕ
between_of c d e f g h = (c * 4 + d * 2 + (f + g + h)) * (840 / 8) + e * (840 / 6)

abbrev pub diagonal_of : ℕ → ℕ → ℕ → ℕ → ℕ → ℕ → ℕ → ℕ → ℕ
diagonal_of a b c d e f g h = (a * 8 + b * 4 + d * 2 + h) * (840 / 8) + (c * 2 + f) * (840 / 6) + e * (840 / 5) + g * (840 / 7)

-- e 7 has line 7 twice
unfoldable pub weigh : Lines → (ℕ → ℕ) → ℕ
weigh Straight e = straight_of (e 0) (e 1) (e 2) (e 3) (e 4) (e 5) (e 6) (e 7 / 2)
weigh Between e = between_of (e 2) (e 3) (e 4) (e 5) (e 6) (e 7 / 2)
weigh Diagonal e = diagonal_of (e 0) (e 1) (e 2) (e 3) (e 4) (e 5) (e 6) (e 7 / 2)

unfoldable pub weighed_of : Lines → List ℕ → ℕ → ℕ
weighed_of kind q l = weigh kind (λ n. get_or q (n * 8 + l) 0)

unfoldable pub cost_of : List ℤ → Lines → ℕ → ℕ
cost_of p kind l = weigh kind (end_squares p l)

-- no cost above 64 * 128 * 128 * 840, that of 64 values of -128, the largest there is
pub record LaneCostsFit (p : List ℤ) (kind : Lines) : Type 0 where
  pub all : (l : ℕ) → l < 8 → cost_of p kind l ≤ 880803840

-- n entries of q, written from `at` on
unfoldable pub written : List ℕ → ℕ → List ℕ → ℕ → List ℕ
written d at q zero = d
written d at q (suc n) = set (written d at q n) (at + n) (get_or q n 0)

-- the standard's costs: direction d of lane l at 8 d + l
abbrev pub cost_at : List ℤ → ℕ → ℕ
cost_at s k = cost (lane_of s (k % 8)) (k / 8)

unfoldable pub costs_of : List ℤ → List ℕ
costs_of s = upto (cost_at s) 64

-- c has 64 entries, and the first n of them are these
pub record CostsTo (s : List ℤ) (c : List ℕ) (n : ℕ) : Type 0 where
  pub size : length c ≡ 64
  pub first : take n c ≡ upto (cost_at s) n

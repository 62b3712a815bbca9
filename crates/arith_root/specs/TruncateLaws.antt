-- The integer part of an f64 that is not subnormal, by its bits.
use Rattle.std.specs.Prelude.{◌≡◌, ℕ, ◌+◌, ◌-◌, ◌*◌, ◌/◌, ◌%◌, ◌^◌, ◌≤◌, ◌<◌, min, true, false, pos, T, Float}
use Rattle.std.proofs.Common.{sym, ap, ◌∙◌, inl, inr, le_of_eq, lt_of_lt_of_le, lt_of_le_of_lt, not-le_of_lt, mul_right_comm, lt_of_mul-lt-mul_right, mul-lt-mul_of_pos_right, arith, true≢false, ltb→lt, lit≤, pow-add, pow_pos, pow_mono, shl_lt}
use Rattle.std.proofs.Math.Nat.{div-eq_of_lt, mul-div-mul_right}
use Rattle.std.specs.Float.{nan, inf, fin}
use Rattle.std.specs.Float.Ieee.{up, down, lt, to_unsigned}
use Rattle.std.specs.Float.Ieee.Fits.{down_pos}
use Rattle.std.specs.Float.Ieee.Exact.{HasValue}
use Rattle.std.specs.Float.Ieee.Nearest.{div_same}
use Rattle.arith_root.specs.PatternLaws.{units_of, value_grows}
use Rattle.arith_root.specs.NewtonLaws.{below_or_not}

-- ---- what a value says of a comparison and of truncation
pub below-value : (x : Float) (a c k : ℕ) → 0 < c → HasValue x false a c → T (lt x (fin false 1 (pos k))) → a < 2 ^ k * c
unfolding lt
below-value nan a c k C v h = absurd v
below-value (inf s) a c k C v h = absurd v
below-value (fin true m e) a c k C v h = absurd (true≢false v.0)
below-value (fin false m e) a c k C v h =
    let g : m * up e * 1 < 1 * 2 ^ k * down e = ltb→lt (m * up e * 1) (1 * 2 ^ k * down e) h in
    let g' : m * up e < 2 ^ k * down e = omega arith in
    let l : m * up e * c < 2 ^ k * down e * c = mul-lt-mul_of_pos_right g' C in
    lt_of_mul-lt-mul_right (down e) (lt_of_le_of_lt (le_of_eq (sym v.1)) (lt_of_lt_of_le l (le_of_eq (mul_right_comm (2 ^ k) (down e) c))))

pub truncated-value : (x : Float) (a c : ℕ) → 0 < c → HasValue x false a c → a / c < 2 ^ 64 → to_unsigned 64 x ≡ a / c
unfolding to_unsigned
truncated-value nan a c C v h = absurd v
truncated-value (inf s) a c C v h = absurd v
truncated-value (fin true m e) a c C v h = absurd (true≢false v.0)
truncated-value (fin false m e) a c C v h =
    let d : m * up e / down e ≡ a / c = div_same (m * up e) (down e) a c (down_pos e) C v.1 in
    ap (λ (z : ℕ). min z (2 ^ 64 - 1)) d ∙ capped (a / c) h
  where
    capped : (z : ℕ) → z < 2 ^ 64 → min z (2 ^ 64 - 1) ≡ z
    capped z h = omega arith

-- ---- the integer part of the value that a pattern b stands for
-- the exponent field is at most 1075, since x is below 2 ^ 53
pub field-high : (b : ℕ) → 2 ^ 52 ≤ b → units_of b < 2 ^ 53 * 2 ^ 1074 → b < 1076 * 2 ^ 52
field-high b l h = elim (below_or_not b (1076 * 2 ^ 52)) [ inl u ↦ u | inr u ↦ absurd (not-le_of_lt h (value_grows (1076 * 2 ^ 52) b (lit≤ tt) u)) ]

-- below 1
pub none : (b : ℕ) → 2 ^ 52 ≤ b → b / 2 ^ 52 < 1023 → units_of b / 2 ^ 1074 ≡ 0
none b l h =
    let m : 2 ^ 52 + b % 2 ^ 52 < 2 ^ 53 = omega arith in
    div-eq_of_lt (lt_of_lt_of_le (shl_lt 53 (b / 2 ^ 52 - 1) m) (pow_mono {i = 53 + (b / 2 ^ 52 - 1)} {j = 1074} (omega arith)))

-- from 1 on
pub some : (b : ℕ) → 2 ^ 52 ≤ b → b / 2 ^ 52 ≤ 1075 → units_of b / 2 ^ 1074 ≡ (2 ^ 52 + b % 2 ^ 52) / 2 ^ (1075 - b / 2 ^ 52)
some b l h =
    let x = b / 2 ^ 52 in
    let m = 2 ^ 52 + b % 2 ^ 52 in
    let e : 1075 - x + (x - 1) ≡ 1074 = omega arith in
    ap (λ (z : ℕ). m * 2 ^ (x - 1) / z) (ap (λ (z : ℕ). 2 ^ z) (sym e) ∙ pow-add 2 (1075 - x) (x - 1))
    ∙ mul-div-mul_right m (2 ^ (1075 - x)) (pow_pos (x - 1))

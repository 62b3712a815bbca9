-- The bit pattern of an f64 that is not subnormal: where it lies, and the value that it stands for, in units of 2 ^ -1074.
use Rattle.std.specs.Prelude.{◌≡◌, ◌⊎◌, ℕ, zero, suc, ◌+◌, ◌-◌, ◌*◌, ◌/◌, ◌%◌, ◌^◌, ◌≤◌, ◌<◌, Bool, true, false, not, ◌&&◌, T, eqb, ltb, leb, Float}
use Rattle.std.proofs.Common.{sym, ap, ◌∙◌, subst, inl, inr, le_trans, le_of_eq, lt_of_lt_of_le, mul_left_comm, mul_right_comm, mul-le-mul_left, mul-le-mul_right, mul-lt-mul_of_pos_right, mod-eq_of_lt, le-div_iff_mul-le, div-lt_iff_lt-mul, div-one, arith, ne_eqb, ltb→lt, pow-add, pow_pos, pow_mono}
use Rattle.std.proofs.lemmas.Bool.{lt-leb}
use Rattle.std.specs.Float.{nan, inf, fin, binary64}
use Rattle.std.specs.Float.Ieee.{up, down, size, le, lt, fits, is_nan, nan_bits, odd, of_fields, of_bits, to_bits}
use Rattle.std.specs.Float.Ieee.Bits.{nan_bits_is}
use Rattle.std.specs.Float.Ieee.Digits.{size-le}
use Rattle.std.specs.Float.Ieee.Fits.{and_l, and_r, down_pos, kept-lt}
use Rattle.std.specs.Float.Ieee.Exact.{HasValue, odd_sign}
use Rattle.std.specs.Float.Ieee.Positive.{above, above_of_le, le→cross}
use Rattle.cdef_spec.specs.Root.{least_normal}
use Rattle.arith_root.specs.RootWords.{normal}
use Rattle.arith_root.specs.NewtonLaws.{below_or_not}

-- the 53-bit significand of a pattern, shifted left by its exponent field less 1
abbrev pub units_of : ℕ → ℕ
units_of b = (2 ^ 52 + b % 2 ^ 52) * 2 ^ (b / 2 ^ 52 - 1)

-- ---- what a pattern stands for

field-value : (x t : ℕ) → 1 ≤ x → x < 2047 → of_fields binary64 false x t ≡ odd 53 false (2 ^ 52 + t) (x - 1) 1074
unfolding of_fields
field-value zero t l u = absurd (omega arith)
field-value (suc x) t l u = let k : suc x - 1 ≡ x = omega arith in rw (ne_eqb (suc x) 2047 (λ e. omega arith), k)

pub pattern-value : (b : ℕ) → 2 ^ 52 ≤ b → b < 9218868437227405312 → HasValue (of_bits binary64 b) false (units_of b) (2 ^ 1074)
unfolding of_bits
pattern-value b l u =
    let s : leb (2 ^ 63) b ≡ false = lt-leb (2 ^ 63) b (omega arith) in
    let r : b % 2 ^ 63 ≡ b = mod-eq_of_lt (omega arith) in
    let e : of_fields binary64 (leb (2 ^ 63) b) (b % 2 ^ 63 / 2 ^ 52) (b % 2 ^ 52) ≡ odd 53 false (2 ^ 52 + b % 2 ^ 52) (b / 2 ^ 52 - 1) 1074 = rw (s, r) (field-value (b / 2 ^ 52) (b % 2 ^ 52) (omega arith) (omega arith)) in
    subst (λ (z : Float). HasValue z false (units_of b) (2 ^ 1074)) (sym e) (odd_sign 53 false (2 ^ 52 + b % 2 ^ 52) (b / 2 ^ 52 - 1) 1074)

-- a greater pattern stands for a greater value
pub value_grows : (b c : ℕ) → 2 ^ 52 ≤ b → b ≤ c → units_of b ≤ units_of c
value_grows b c l h =
    let x = b / 2 ^ 52 in
    let y = c / 2 ^ 52 in
    let m : 2 ^ 52 + b % 2 ^ 52 ≤ 2 ^ 53 = omega arith in
    let n : 2 ^ 52 ≤ 2 ^ 52 + c % 2 ^ 52 = omega arith in
    elim (below_or_not x y) [
      | inl g ↦
          let a : 53 + (x - 1) ≤ 52 + (y - 1) = omega arith in
          le_trans (mul-le-mul_right (2 ^ (x - 1)) m)
          (le_trans (le_of_eq (sym (pow-add 2 53 (x - 1))))
          (le_trans (pow_mono {i = 53 + (x - 1)} {j = 52 + (y - 1)} a)
          (le_trans (le_of_eq (pow-add 2 52 (y - 1))) (mul-le-mul_right (2 ^ (y - 1)) n))))
      | inr g ↦
          let e : x ≡ y = omega arith in
          let d : 2 ^ 52 + b % 2 ^ 52 ≤ 2 ^ 52 + c % 2 ^ 52 = omega arith in
          le_trans (mul-le-mul_right (2 ^ (x - 1)) d) (le_of_eq (ap (λ (z : ℕ). (2 ^ 52 + c % 2 ^ 52) * 2 ^ (z - 1)) e))
    ]

-- ---- where the pattern of a value lies

abbrev Range : ℕ → Type 0
Range b = (2 ^ 52 ≤ b) × (b < 9218868437227405312)

-- of n units
units-range : (n : ℕ) → 2 ^ 52 ≤ n → n < 2 ^ 2098 → Range (0 + (size n - 53) * 2 ^ 52 + n / 2 ^ (size n - 53))
units-range n l u = (from (below_or_not 53 (size n)), omega (arith, kept-lt 53 n, size-le n 2098 u))
  where
    from : (53 < size n) ⊎ (size n ≤ 53) → 2 ^ 52 ≤ 0 + (size n - 53) * 2 ^ 52 + n / 2 ^ (size n - 53)
    from (inl h) = let k : 1 ≤ size n - 53 = omega arith in omega arith
    from (inr h) =
        let e : size n - 53 ≡ 0 = omega arith in
        subst (λ (k : ℕ). 2 ^ 52 ≤ 0 + k * 2 ^ 52 + n / 2 ^ k) (sym e) (omega (arith, div-one n))

low-units : (d p : ℕ) → d ≤ p * 2 ^ 1022 → 2 ^ 52 * d ≤ p * 2 ^ 1074
low-units d p h = le_trans (mul-le-mul_left (2 ^ 52) h) (le_of_eq (mul_left_comm (2 ^ 52) p (2 ^ 1022) ∙ ap (λ (z : ℕ). p * z) (sym (pow-add 2 52 1022))))

high-units : (d p : ℕ) → p < 2 ^ 1024 * d → p * 2 ^ 1074 < 2 ^ 2098 * d
high-units d p h = lt_of_lt_of_le (mul-lt-mul_of_pos_right h (pow_pos 1074)) (le_of_eq (mul_right_comm (2 ^ 1024) d (2 ^ 1074) ∙ ap (λ (z : ℕ). z * d) (sym (pow-add 2 1024 1074))))

once : (d p : ℕ) → 1 * 1 * d ≤ p → d ≤ p
once d p h = omega arith

range : (x : Float) → T (fits binary64 x) → T (above x) → T (le least_normal x) → T (lt x (inf false)) → Range (to_bits binary64 x)
unfolding fits to_bits lt
range nan F a h k = absurd a
range (inf true) F a h k = absurd a
range (inf false) F a h k = absurd k
range (fin true m e) F a h k = absurd a
range (fin false zero e) F a h k = absurd a
range (fin false (suc m) e) F a h k =
    let p = suc m * up e in
    let lo : down e ≤ p * 2 ^ 1022 = once (down e) (p * 2 ^ 1022) (le→cross least_normal (fin false (suc m) e) tt a h) in
    let hi : p < 2 ^ 1024 * down e = ltb→lt p (2 ^ 1024 * down e) (and_r (eqb (suc m % 2) 1 && ltb (suc m) (2 ^ 53) && leb (down e) (2 ^ 1074)) (ltb p (2 ^ 1024 * down e)) F) in
    units-range (p * 2 ^ 1074 / down e) ((le-div_iff_mul-le (down_pos e)).1 (low-units (down e) p lo)) ((div-lt_iff_lt-mul (down_pos e)).1 (high-units (down e) p hi))

above_zero : (x : Float) → T (normal x) → T (above x)
above_zero x N = above_of_le least_normal x tt (and_l (le least_normal x) (lt x (inf false)) N)

pub pattern-range : (x : Float) → T (fits binary64 x) → T (normal x) → (2 ^ 52 ≤ to_bits binary64 x) × (to_bits binary64 x < 9218868437227405312)
pattern-range x F N = range x F (above_zero x N) (and_l (le least_normal x) (lt x (inf false)) N) (and_r (le least_normal x) (lt x (inf false)) N)

-- ---- no NaN

pub above_no_nan : (x : Float) → T (above x) → T (not (is_nan x))
unfolding is_nan
above_no_nan nan h = absurd h
above_no_nan (inf s) h = tt
above_no_nan (fin s m e) h = tt

pub normal-no-nan : (x : Float) → T (normal x) → T (not (is_nan x))
normal-no-nan x N = above_no_nan x (above_zero x N)

pub value-no-nan : (x : Float) (a c : ℕ) → HasValue x false a c → T (not (is_nan x))
unfolding is_nan
value-no-nan nan a c h = absurd h
value-no-nan (inf s) a c h = absurd h
value-no-nan (fin s m e) a c h = tt

-- the pattern of a normal number is none of a NaN
pub pattern-no-nan : (p : ℕ) → 2 ^ 52 ≤ p → p < 9218868437227405312 → T (not (nan_bits binary64 p))
pattern-no-nan p lo hi = subst (λ (t : Bool). T (not t)) (sym (nan_bits_is binary64 p)) (value-no-nan (of_bits binary64 p) (units_of p) (2 ^ 1074) (pattern-value p lo hi))

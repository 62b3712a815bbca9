-- Values that an f64 holds, counted in units of 2 ^ -1074: their order, and squares of sums of two of them.
use Rattle.std.specs.Prelude.{◌≡◌, refl, ℕ, zero, suc, ◌+◌, ◌-◌, ◌*◌, ◌%◌, ◌^◌, ◌≤◌, ◌<◌, true, false, ◌&&◌, ℤ, pos, negsuc, T, eqb, ltb, leb, Float}
use Rattle.std.proofs.Common.{sym, ◌∙◌, inl, inr, le_of_eq, lt_of_le_of_lt, lt_of_lt_of_le, not-le_of_lt, mul-one, mul_left_comm, add-mul, mul-lt-mul_of_pos_right, lt_of_mul-lt-mul_right, zero-mul, sub-add_cancel, ltb→lt, leb→le, lit<, pow-add}
use Rattle.std.proofs.Math.Path.{ap}
use Rattle.std.proofs.Math.Nat.{mul_comm, mul_assoc, mul_right_comm, mul-mul-mul_comm, mul-pos}
use Rattle.std.proofs.Math.Pow.{pow-lt}
use Rattle.std.specs.Float.{nan, inf, fin, binary64}
use Rattle.std.specs.Float.Ieee.{up, down, fits}
use Rattle.std.specs.Float.Ieee.Fits.{and_l, and_r}
use Rattle.std.specs.Float.Ieee.Exact.{HasValue}
use Rattle.std.specs.Float.Ieee.Positive.{num, den, den_pos, value→cross}
use Rattle.cdef_spec.specs.Root.{plain, sum_num, sum_den}
use Rattle.arith_root.specs.NewtonLaws.{below_or_not}
use Rattle.arith_root.specs.FloatLaws.{U, U_pos}

-- ---- a value that fits, in units of 2 ^ -1074
pow-back : (a l : ℕ) → 2 ^ a ≤ 2 ^ l → a ≤ l
pow-back a l h = elim (below_or_not l a) [ inl g ↦ absurd (not-le_of_lt (pow-lt g) h) | inr g ↦ g ]

units : (d : ℤ) → down d ≤ 2 ^ 1074 → (j : ℕ) × ((n : ℕ) → n * up d * U ≡ n * 2 ^ j * down d)
units (pos a) h = (a + 1074, λ n. mul_assoc n (2 ^ a) U ∙ ap (λ (z : ℕ). n * z) (sym (pow-add 2 a 1074)) ∙ sym (mul-one (n * 2 ^ (a + 1074))))
units (negsuc a) h =
    let l : suc a ≤ 1074 = pow-back (suc a) 1074 h in
    (1074 - suc a, λ n. ap (λ (z : ℕ). z * U) (mul-one n) ∙ ap (λ (z : ℕ). n * z) (ap (λ (z : ℕ). 2 ^ z) (sym (sub-add_cancel l)) ∙ pow-add 2 (1074 - suc a) (suc a)) ∙ sym (mul_assoc n (2 ^ (1074 - suc a)) (2 ^ suc a)))

-- Y units, which is n * 2 ^ j for an n of at most 53 bits
pub record Counted (y : Float) : Type 0 where
  pub n : ℕ
  pub j : ℕ
  pub small : n < 2 ^ 53
  pub value : HasValue y false (n * 2 ^ j) U

pub counted : (y : Float) → T (fits binary64 y) → T (plain y) → Counted y
unfolding fits
counted nan F p = absurd p
counted (inf s) F p = absurd p
counted (fin true m e) F p = absurd p
counted (fin false zero e) F p = record { n = 0; j = 0; small = lit< tt; value = (refl, ap (λ (z : ℕ). z * U) (zero-mul (up e)) ∙ sym (zero-mul (down e))) }
counted (fin false (suc m) e) F p =
    let t = and_l (eqb (suc m % 2) 1 && ltb (suc m) (2 ^ 53) && leb (down e) (2 ^ 1074)) (ltb (suc m * up e) (2 ^ 1024 * down e)) F in
    let d : down e ≤ 2 ^ 1074 = leb→le (down e) (2 ^ 1074) (and_r (eqb (suc m % 2) 1 && ltb (suc m) (2 ^ 53)) (leb (down e) (2 ^ 1074)) t) in
    let s : suc m < 2 ^ 53 = ltb→lt (suc m) (2 ^ 53) (and_r (eqb (suc m % 2) 1) (ltb (suc m) (2 ^ 53)) (and_l (eqb (suc m % 2) 1 && ltb (suc m) (2 ^ 53)) (leb (down e) (2 ^ 1074)) t)) in
    let u = units e d in
    record { n = suc m; j = u.0; small = s; value = (refl, u.1 (suc m)) }

-- ---- the order of two values, in units
pub cross-lt : (x y : Float) (a b : ℕ) → HasValue x false a U → HasValue y false b U → num x * den y < num y * den x → a < b
cross-lt x y a b h k l =
    let p : num x * U ≡ a * den x = value→cross x a U h in
    let q : num y * U ≡ b * den y = value→cross y b U k in
    let e : num x * den y * U ≡ a * (den x * den y) = mul_right_comm (num x) (den y) U ∙ ap (λ (z : ℕ). z * den y) p ∙ mul_assoc a (den x) (den y) in
    let f : num y * den x * U ≡ b * (den x * den y) = mul_right_comm (num y) (den x) U ∙ ap (λ (z : ℕ). z * den x) q ∙ mul_right_comm b (den y) (den x) ∙ mul_assoc b (den x) (den y) in
    lt_of_mul-lt-mul_right (den x * den y) (lt_of_le_of_lt (le_of_eq (sym e)) (lt_of_lt_of_le (mul-lt-mul_of_pos_right l U_pos) (le_of_eq f)))

-- ---- the squares, from units to fractions
module _ (v r y : Float) (A P Y : ℕ) (hv : HasValue v false A U) (hr : HasValue r false P U) (hy : HasValue y false Y U) where
  sum_is : sum_num r y * U ≡ (P + Y) * sum_den r y
  sum_is =
      let p : num r * U ≡ P * den r = value→cross r P U hr in
      let q : num y * U ≡ Y * den y = value→cross y Y U hy in
      let e : num r * den y * U ≡ P * (den r * den y) = mul_right_comm (num r) (den y) U ∙ ap (λ (z : ℕ). z * den y) p ∙ mul_assoc P (den r) (den y) in
      let f : num y * den r * U ≡ Y * (den r * den y) = mul_right_comm (num y) (den r) U ∙ ap (λ (z : ℕ). z * den r) q ∙ mul_right_comm Y (den y) (den r) ∙ mul_assoc Y (den r) (den y) in
      add-mul (num r * den y) (num y * den r) U ∙ ap (λ (z : ℕ). z + num y * den r * U) e ∙ ap (λ (z : ℕ). P * (den r * den y) + z) f ∙ sym (add-mul P Y (den r * den y))

  -- what both sides are multiplied by
  weight : ℕ
  weight = sum_den r y * sum_den r y * den v

  weight-pos : 0 < weight
  unfolding weight
  weight-pos = mul-pos (mul-pos (mul-pos (den_pos r) (den_pos y)) (mul-pos (den_pos r) (den_pos y))) (den_pos v)

  left : sum_num r y * sum_num r y * den v * (U * U) ≡ (P + Y) * (P + Y) * weight
  unfolding weight
  left =
      mul_right_comm (sum_num r y * sum_num r y) (den v) (U * U)
      ∙ ap (λ (z : ℕ). z * den v) (mul-mul-mul_comm (sum_num r y) (sum_num r y) U U ∙ ap (λ (z : ℕ). z * (sum_num r y * U)) sum_is ∙ ap (λ (z : ℕ). (P + Y) * sum_den r y * z) sum_is ∙ mul-mul-mul_comm (P + Y) (sum_den r y) (P + Y) (sum_den r y))
      ∙ mul_assoc ((P + Y) * (P + Y)) (sum_den r y * sum_den r y) (den v)

  right : 4 * num v * (sum_den r y * sum_den r y) * (U * U) ≡ 4 * (A * U) * weight
  unfolding weight
  right = regroup (num v) (sum_den r y * sum_den r y) U A (den v) (value→cross v A U hv)
    where
      regroup : (n o u a d : ℕ) → n * u ≡ a * d → 4 * n * o * (u * u) ≡ 4 * (a * u) * (o * d)
      regroup n o u a d e =
          let x : 4 * n * o * (u * u) ≡ 4 * (n * u) * (u * o) = simp (mul_assoc, mul_comm, mul_left_comm) in
          let z : 4 * (a * d) * (u * o) ≡ 4 * (a * u) * (o * d) = simp (mul_assoc, mul_comm, mul_left_comm) in
          x ∙ ap (λ (w : ℕ). 4 * w * (u * o)) e ∙ z

  pub below_of : (P + Y) * (P + Y) < 4 * (A * U) → sum_num r y * sum_num r y * den v < 4 * num v * (sum_den r y * sum_den r y)
  below_of l = lt_of_mul-lt-mul_right (U * U) (lt_of_le_of_lt (le_of_eq left) (lt_of_lt_of_le (mul-lt-mul_of_pos_right l weight-pos) (le_of_eq (sym right))))

  pub above_of : 4 * (A * U) < (P + Y) * (P + Y) → 4 * num v * (sum_den r y * sum_den r y) < sum_num r y * sum_num r y * den v
  above_of l = lt_of_mul-lt-mul_right (U * U) (lt_of_le_of_lt (le_of_eq right) (lt_of_lt_of_le (mul-lt-mul_of_pos_right l weight-pos) (le_of_eq (sym left))))

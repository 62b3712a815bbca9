-- The operations on f64 values that are not negative, by the fractions that they equal, and bounds on what rounding gives.
use Rattle.std.specs.Prelude.{◌≡◌, refl, ℕ, ◌+◌, ◌*◌, ◌^◌, ◌≤◌, ◌<◌, Bool, true, false, not, cond, ◌&&◌, ◌||◌, ℤ, T, eqb, ltb, Float}
use Rattle.std.proofs.Common.{sym, ap, ◌∙◌, subst, inl, inr, le_of_eq, lt_of_le_of_lt, mul-one, one-mul, mul_comm, mul_assoc, mul_left_comm, mul_right_comm, add-mul, mul-pos, lt_irrefl, zero-mul, arith, true≢false, le-ltb, ne_eqb, eqb→eq, lit<, pow-add, pow_pos}
use Rattle.std.proofs.Math.Nat.{mul-mul-mul_comm, eq_of_mul-eq-mul_right}
use Rattle.std.proofs.Math.Dec.{not_T}
use Rattle.std.proofs.Math.Pow.{pow-lt}
use Rattle.std.specs.Float.{nan, inf, fin, Format, binary64}
use Rattle.std.specs.Float.Ieee.{up, down, units, round, sum, add, mul, div, le}
use Rattle.std.specs.Float.Ieee.Fits.{down_pos, round_is}
use Rattle.std.specs.Float.Ieee.Bits.{cond_no}
use Rattle.std.specs.Float.Ieee.Exact.{HasValue, round_exact}
use Rattle.std.specs.Float.Ieee.Order.{drop, kept, transfer, round_mono}
use Rattle.std.specs.Float.Ieee.Positive.{first_pos}
use Rattle.std.specs.Float.Ieee.Scale.{round_same, grid, round_val}
use Rattle.std.specs.Float.Ieee.Back.{round_whole}
use Rattle.arith_root.specs.NewtonLaws.{below_or_not}

abbrev pub U : ℕ
U = 2 ^ 1074

pub U_pos : 0 < U
U_pos = pow_pos 1074

-- ---- the three operations, by any fractions that the operands equal
cross-mul : (p q c d a b e f : ℕ) → p * c ≡ a * e → q * d ≡ b * f → p * q * (c * d) ≡ a * b * (e * f)
cross-mul p q c d a b e f x y = mul-mul-mul_comm p q c d ∙ ap (λ (z : ℕ). z * (q * d)) x ∙ ap (λ (z : ℕ). a * e * z) y ∙ mul-mul-mul_comm a e b f

pub mul_val : (f : Format) (x y : Float) (a c b d : ℕ) → 0 < c → 0 < d → HasValue x false a c → HasValue y false b d → mul f x y ≡ round f false (a * b) (c * d)
unfolding mul
mul_val f nan y a c b d C D h k = absurd h
mul_val f (inf s) y a c b d C D h k = absurd h
mul_val f (fin s m e) nan a c b d C D h k = absurd k
mul_val f (fin s m e) (inf t) a c b d C D h k = absurd k
mul_val f (fin true m e) (fin t n g) a c b d C D h k = absurd (true≢false h.0)
mul_val f (fin false m e) (fin true n g) a c b d C D h k = absurd (true≢false k.0)
mul_val f (fin false m e) (fin false n g) a c b d C D h k =
    round_same f false (m * up e * (n * up g)) (down e * down g) (a * b) (c * d) (mul-pos (down_pos e) (down_pos g)) (mul-pos C D)
    (cross-mul (m * up e) (n * up g) c d a b (down e) (down g) h.1 k.1)

cross-add : (p q c d a b e f : ℕ) → p * c ≡ a * e → q * d ≡ b * f → (p * f + q * e) * (c * d) ≡ (a * d + b * c) * (e * f)
cross-add p q c d a b e f x y =
    let l : p * f * (c * d) ≡ a * d * (e * f) = mul-mul-mul_comm p f c d ∙ ap (λ (z : ℕ). z * (f * d)) x ∙ simp (mul_assoc, mul_comm, mul_left_comm) in
    let r : q * e * (c * d) ≡ b * c * (e * f) = simp (mul_assoc, mul_comm, mul_left_comm) (simp (mul_assoc, mul_comm, mul_left_comm) at (ap (λ (z : ℕ). z * (e * c)) y)) in
    add-mul (p * f) (q * e) (c * d) ∙ ap (λ (z : ℕ). z + q * e * (c * d)) l ∙ ap (λ (z : ℕ). a * d * (e * f) + z) r ∙ sym (add-mul (a * d) (b * c) (e * f))

pub add-val : (f : Format) (x y : Float) (a c b d : ℕ) → 0 < c → 0 < d → HasValue x false a c → HasValue y false b d → add f x y ≡ round f false (a * d + b * c) (c * d)
unfolding add sum
add-val f nan y a c b d C D h k = absurd h
add-val f (inf s) y a c b d C D h k = absurd h
add-val f (fin s m e) nan a c b d C D h k = absurd k
add-val f (fin s m e) (inf t) a c b d C D h k = absurd k
add-val f (fin true m e) (fin t n g) a c b d C D h k = absurd (true≢false h.0)
add-val f (fin false m e) (fin true n g) a c b d C D h k = absurd (true≢false k.0)
add-val f (fin false m e) (fin false n g) a c b d C D h k =
    round_same f false (m * up e * down g + n * up g * down e) (down e * down g) (a * d + b * c) (c * d) (mul-pos (down_pos e) (down_pos g)) (mul-pos C D)
    (cross-add (m * up e) (n * up g) c d a b (down e) (down g) h.1 k.1)

-- a value above zero has an m above zero
no_zero : (m : ℕ) (e : ℤ) (b d : ℕ) → 0 < b → m * up e * d ≡ b * down e → T (not (eqb m 0))
no_zero m e b d B h = not_T (eqb m 0) (λ (t : T (eqb m 0)). lt_irrefl 0 (subst (λ (z : ℕ). 0 < z) (sym h ∙ ap (λ (z : ℕ). z * up e * d) (eqb→eq m 0 t) ∙ ap (λ (z : ℕ). z * d) (zero-mul (up e)) ∙ zero-mul d) (mul-pos B (down_pos e))))

num_pos : (m : ℕ) (e : ℤ) (b d : ℕ) → 0 < b → m * up e * d ≡ b * down e → 0 < m * up e
num_pos m e b d B h = first_pos (m * up e) d (subst (λ (z : ℕ). 0 < z) (sym h) (mul-pos B (down_pos e)))

cross-div : (p q c d a b e f : ℕ) → p * c ≡ a * e → q * d ≡ b * f → p * f * (b * c) ≡ a * d * (q * e)
cross-div p q c d a b e f x y =
    let l : p * f * (b * c) ≡ a * e * (b * f) = mul-mul-mul_comm p f b c ∙ simp (mul_assoc, mul_comm, mul_left_comm) (simp (mul_assoc, mul_comm, mul_left_comm) at (ap (λ (z : ℕ). z * (b * f)) x)) in
    let r : a * d * (q * e) ≡ a * e * (q * d) = simp (mul_assoc, mul_comm, mul_left_comm) in
    l ∙ ap (λ (z : ℕ). a * e * z) (sym y) ∙ sym r

pub div-val : (f : Format) (x y : Float) (a c b d : ℕ) → 0 < c → 0 < d → 0 < b → HasValue x false a c → HasValue y false b d → div f x y ≡ round f false (a * d) (b * c)
unfolding div
div-val f nan y a c b d C D B h k = absurd h
div-val f (inf s) y a c b d C D B h k = absurd h
div-val f (fin s m e) nan a c b d C D B h k = absurd k
div-val f (fin s m e) (inf t) a c b d C D B h k = absurd k
div-val f (fin true m e) (fin t n g) a c b d C D B h k = absurd (true≢false h.0)
div-val f (fin false m e) (fin true n g) a c b d C D B h k = absurd (true≢false k.0)
div-val f (fin false m e) (fin false n g) a c b d C D B h k =
    cond_no (eqb n 0) (cond (eqb m 0) nan (inf false)) (round f false (m * up e * down g) (n * up g * down e)) (no_zero n g b d B k.1)
    ∙ round_same f false (m * up e * down g) (n * up g * down e) (a * d) (b * c) (mul-pos (num_pos n g b d B k.1) (down_pos e)) (mul-pos B C)
    (cross-div (m * up e) (n * up g) c d a b (down e) (down g) h.1 k.1)

-- ---- a / c rounded to an f64, and that in units of 2 ^ -1074

abbrev pub R : ℕ → ℕ → Float
R a c = round binary64 false a c

abbrev pub G : ℕ → ℕ → ℕ
G a c = grid binary64 a c

-- a fraction that an f64 holds
abbrev pub Held : ℕ → ℕ → Type 0
Held u d = HasValue (R u d) false u d

pub held_whole : (n : ℕ) → n ≤ 2 ^ 53 → Held n 1
held_whole n h = round_whole binary64 false n h

-- 2 ^ t
pub held-pow : (t : ℕ) → t ≤ 1023 → Held (2 ^ t) 1
held-pow t h =
    round_exact binary64 false (2 ^ t) 1 1 (t + 1074) (lit< tt) (lit< tt)
    (lt_of_le_of_lt (le_of_eq (one-mul (2 ^ (t + 1074)))) (pow-lt {i = t + 1074} {j = 1074 + 1024} (omega arith)))
    (sym (pow-add 2 t 1074) ∙ sym (one-mul (2 ^ (t + 1074))) ∙ sym (mul-one (1 * 2 ^ (t + 1074))))

pub held-half : Held 1 2
held-half = round_exact binary64 false 1 2 1 1073 (lit< tt) (lit< tt) (lit< tt) refl

pub same-value : (x : Float) (a c b d : ℕ) → HasValue x false a c → HasValue x false b d → a * d ≡ b * c
same-value nan a c b d h k = absurd h
same-value (inf s) a c b d h k = absurd h
same-value (fin s m e) a c b d h k =
    eq_of_mul-eq-mul_right (down e) (down_pos e) (a * d) (b * c)
    (mul_right_comm a d (down e) ∙ ap (λ (z : ℕ). z * d) (sym h.1) ∙ mul_right_comm (m * up e) c d ∙ ap (λ (z : ℕ). z * c) k.1 ∙ mul_right_comm b (down e) c)

-- ---- the order of two values is that of their fractions

test-le : (a b : ℕ) (t : Bool) → T (ltb a b || (eqb a b && t)) → a ≤ b
test-le a b t h = elim (below_or_not b a) [
  | inl g ↦ absurd (rw (le-ltb a b (omega arith), ne_eqb a b (λ e. omega arith)) at h)
  | inr g ↦ g
]

values-le : (x y : Float) (a c b d : ℕ) → HasValue x false a c → HasValue y false b d → T (le x y) → a * d ≤ b * c
unfolding le
values-le nan y a c b d h k l = absurd h
values-le (inf s) y a c b d h k l = absurd h
values-le (fin s m e) nan a c b d h k l = absurd k
values-le (fin s m e) (inf t) a c b d h k l = absurd k
values-le (fin true m e) (fin t n g) a c b d h k l = absurd (true≢false h.0)
values-le (fin false m e) (fin true n g) a c b d h k l = absurd (true≢false k.0)
values-le (fin false m e) (fin false n g) a c b d h k l =
    transfer a b c d (m * up e) (n * up g) (down e) (down g) (down_pos e) (down_pos g) (sym h.1) (sym k.1) (test-le (m * up e * down g) (n * up g * down e) true l)

-- what rounds to at most a number is no infinity
over : (q k : ℕ) → 2 ^ 2098 ≤ q * 2 ^ k → units binary64 false q k ≡ inf false
unfolding units
over q k h = rw (le-ltb (q * 2 ^ k) (2 ^ 2098) h)

no-infinity : (x y : Float) (b d : ℕ) → x ≡ inf false → HasValue y false b d → T (le x y) → ⊥
unfolding le
no-infinity x nan b d e k l = absurd k
no-infinity x (inf t) b d e k l = absurd k
no-infinity x (fin t n g) b d e k l = subst (λ (z : Float). T (le z (fin t n g))) e l

finite-under : (a c : ℕ) (y : Float) (b d : ℕ) → HasValue y false b d → T (le (R a c) y) → G a c < 2 ^ 2098
finite-under a c y b d k l = elim (below_or_not (G a c) (2 ^ 2098)) [
  | inl h ↦ h
  | inr h ↦ absurd (no-infinity (R a c) y b d (round_is binary64 false a c ∙ over (kept 53 (a * U) c) (drop 53 (a * U) c) h) k l)
]

-- ---- so a value that is at most such a fraction rounds to at most it, and likewise for at least

pub record AtMost (a c u d : ℕ) : Type 0 where
  pub value : HasValue (R a c) false (G a c) U
  pub high : G a c * d ≤ u * U

pub round-high : (a c u d : ℕ) → 0 < c → 0 < d → Held u d → a * d ≤ u * c → AtMost a c u d
round-high a c u d C D h l =
    let k : T (le (R a c) (R u d)) = round_mono binary64 a c u d C D l in
    let v : HasValue (R a c) false (G a c) U = round_val binary64 a c (finite-under a c (R u d) u d h k) in
    record { value = v; high = values-le (R a c) (R u d) (G a c) U u d v h k }

pub round-low : (a c l d : ℕ) → 0 < c → 0 < d → Held l d → HasValue (R a c) false (G a c) U → l * c ≤ a * d → l * U ≤ G a c * d
round-low a c l d C D h v k = values-le (R l d) (R a c) l d (G a c) U h v (round_mono binary64 l d a c D C k)

-- The values in the weighted distance's sequence of operations: each is finite, and within bounds that make the square root and the truncation defined.
use Rattle.std.specs.Prelude.{◌≡◌, refl, ℕ, ◌+◌, ◌-◌, ◌*◌, ◌/◌, ◌^◌, ◌≤◌, ◌<◌, true, false, pos, T, Float}
use Rattle.std.proofs.Common.{sym, ap, ◌∙◌, subst, inl, inr, le_trans, le_of_eq, lt_of_le_of_lt, lt_of_lt_of_le, not-le_of_lt, mul-one, one-mul, mul_assoc, mul_right_comm, mul-le-mul, mul-le-mul_left, mul-le-mul_right, mul-lt-mul_of_pos_right, mul-pos, lt_of_mul-lt-mul_right, arith, true≢false, lt→ltb, lit<, lit≤, pow_pos}
use Rattle.std.proofs.Math.Nat.{eq_of_mul-eq-mul_right}
use Rattle.std.specs.Float.{nan, inf, fin, binary64}
use Rattle.std.specs.Float.Ieee.{up, down, add, mul, div, le, lt, of_int, fits, to_bits}
use Rattle.std.specs.Float.Ieee.Fits.{and_i, down_pos, add-fits}
use Rattle.std.specs.Float.Ieee.Bits.{of_bits-to_bits}
use Rattle.std.specs.Float.Ieee.Exact.{HasValue}
use Rattle.std.specs.Float.Ieee.Order.{le_of_values}
use Rattle.std.specs.Float.Ieee.Scale.{round_same}
use Rattle.cdef_spec.specs.Root.{least_normal, nearest_whole, root_bits, root_of}
use Rattle.arith_root.specs.RootWords.{normal, two53, NearestWhole}
use Rattle.cdef_spec.specs.Distance.{whole, half}
use Rattle.distance_weight.specs.Weighing.{most}
use Rattle.arith_root.specs.PatternLaws.{units_of, value_grows, pattern-value, pattern-range}
use Rattle.arith_root.specs.NewtonLaws.{below_or_not}
use Rattle.arith_root.specs.RootLaws.{moved-any, nearest-whole, found-range, found, found-normal, wide_low, wide_high, under128}
use Rattle.arith_root.specs.FloatLaws.{U, U_pos, R, G, Held, held_whole, held-pow, held-half, mul_val, add-val, div-val, AtMost, round-high, round-low, same-value}

-- ---- comparisons from values
pub lt-of-value : (x : Float) (a c k : ℕ) → 0 < c → HasValue x false a c → a < 2 ^ k * c → T (lt x (fin false 1 (pos k)))
unfolding lt
lt-of-value nan a c k C v h = absurd v
lt-of-value (inf s) a c k C v h = absurd v
lt-of-value (fin true m e) a c k C v h = absurd (true≢false v.0)
lt-of-value (fin false m e) a c k C v h =
    let l : m * up e * c < 2 ^ k * down e * c = lt_of_le_of_lt (le_of_eq v.1) (lt_of_lt_of_le (mul-lt-mul_of_pos_right h (down_pos e)) (le_of_eq (mul_right_comm (2 ^ k) c (down e)))) in
    let g : m * up e < 2 ^ k * down e = lt_of_mul-lt-mul_right c l in
    lt→ltb (m * up e * 1) (1 * 2 ^ k * down e) (omega arith)

below_inf : (x : Float) (a c : ℕ) → HasValue x false a c → T (lt x (inf false))
unfolding lt
below_inf nan a c v = absurd v
below_inf (inf s) a c v = absurd v
below_inf (fin s m e) a c v = tt

-- at least 0.5
pub normal-of : (x : Float) (n : ℕ) → HasValue x false n U → U ≤ n * 2 → T (normal x)
normal-of x n v h =
    and_i (le least_normal x) (lt x (inf false))
    (le_of_values least_normal x 1 (2 ^ 1022) n U (pow_pos 1022) U_pos (refl, refl) v (le_trans (le_of_eq (one-mul U)) (le_trans h (mul-le-mul_left n (lit≤ {m = 2} {n = 2 ^ 1022} tt)))))
    (below_inf x n U v)

-- ---- operations with a whole number among the operands
pub whole_val : (n : ℕ) → n ≤ 2 ^ 53 → HasValue (whole n) false n 1
unfolding of_int
whole_val n h = held_whole n h

pub mul-whole : (x y : Float) (a b d : ℕ) → 0 < d → HasValue x false a 1 → HasValue y false b d → mul binary64 x y ≡ R (a * b) d
mul-whole x y a b d D h k = mul_val binary64 x y a 1 b d (lit< tt) D h k ∙ ap (λ (z : ℕ). R (a * b) z) (one-mul d)

pub add-whole : (x y : Float) (a b d : ℕ) → 0 < d → HasValue x false a 1 → HasValue y false b d → add binary64 x y ≡ R (a * d + b) d
add-whole x y a b d D h k = add-val binary64 x y a 1 b d (lit< tt) D h k ∙ ap (λ (z : ℕ). R (a * d + z) (1 * d)) (mul-one b) ∙ ap (λ (z : ℕ). R (a * d + b) z) (one-mul d)

pub add-wholes : (x y : Float) (a b : ℕ) → HasValue x false a 1 → HasValue y false b 1 → a + b ≤ 2 ^ 53 → HasValue (add binary64 x y) false (a + b) 1
add-wholes x y a b h k l =
    subst (λ (z : Float). HasValue z false (a + b) 1)
    (ap (λ (z : ℕ). R (z + b) 1) (sym (mul-one a)) ∙ sym (add-whole x y a b 1 (lit< tt) h k))
    (held_whole (a + b) l)

-- x / y where both have the denominator d
div-alike : (x y : Float) (a b d : ℕ) → 0 < d → 0 < b → HasValue x false a d → HasValue y false b d → div binary64 x y ≡ R a b
div-alike x y a b d D B h k = div-val binary64 x y a d b d D D B h k ∙ round_same binary64 false (a * d) (b * d) a b (mul-pos B D) B (mul_right_comm a d b ∙ mul_assoc a b d)

-- ---- a value of n units that is at most u

pub record Within (x : Float) (u : ℕ) : Type 0 where
  pub num : ℕ
  pub value : HasValue x false num U
  pub most-u : num ≤ u * U

-- with u whole, what is at most u rounds to at most u
high : (a c u : ℕ) → 0 < c → Held u 1 → a ≤ u * c → AtMost a c u 1
high a c u C h l = round-high a c u 1 C (lit< tt) h (le_trans (le_of_eq (mul-one a)) l)

abbrev within : (x : Float) (a c u : ℕ) → 0 < c → Held u 1 → a ≤ u * c → x ≡ R a c → Within x u
within x a c u C h l e =
    let g = high a c u C h l in
    record { num = G a c; value = subst (λ (z : Float). HasValue z false (G a c) U) (sym e) g.value; most-u = le_trans (le_of_eq (sym (mul-one (G a c)))) g.high }

-- ---- the square root of a value that is at least 20000 is at least 128
-- the square root's significand, of 53 bits
pub record Rooted (b n : ℕ) : Type 0 where
  pub is-bits : (b / 2 ^ 52 + 1023) / 2 * 2 ^ 52 + (n - 2 ^ 52) ≡ root_bits b
  pub n-low : 2 ^ 52 ≤ n
  pub n-high : n < 2 ^ 53

pub rooted : (b : ℕ) → (n : ℕ) × Rooted b n
rooted b =
    let mv = moved-any b in
    let h = mv.0 in
    let m = mv.1 in
    let n = nearest_whole (h * 2 ^ 52) in
    let p : NearestWhole (h * 2 ^ 52) n = nearest-whole (h * 2 ^ 52) (lt_of_lt_of_le (lit< tt) (wide_low h m.low)) (under128 (h * 2 ^ 52) (wide_high h m.high)) in
    let r = found-range b h n m p in
    (n, record { is-bits = found b h n m p; n-low = r.0; n-high = r.1 })

pub root-val : (v : Float) (n : ℕ) → T (fits binary64 v) → T (normal v) → HasValue v false n U → 20000 * U ≤ n → (r : ℕ) × HasValue (root_of v) false r U × (128 * U ≤ r)
unfolding root_of
root-val v n F N h l =
    let b = to_bits binary64 v in
    let rg = pattern-range v F N in
    let hb : HasValue v false (units_of b) U = subst (λ (z : Float). HasValue z false (units_of b) U) (of_bits-to_bits binary64 v F) (pattern-value b rg.0 rg.1) in
    let e : n ≡ units_of b = eq_of_mul-eq-mul_right U U_pos n (units_of b) (same-value v n U (units_of b) U h hb) in
    let lb : 1037 * 2 ^ 52 ≤ b = elim (below_or_not b (1037 * 2 ^ 52)) [
      | inl u ↦ absurd (not-le_of_lt (lt_of_le_of_lt (value_grows b (1037 * 2 ^ 52) rg.0 (before b (1037 * 2 ^ 52) u)) (lit< tt)) (le_trans l (le_of_eq e)))
      | inr g ↦ g
    ] in
    let rt = rooted b in
    let k = rt.1 in
    let nr = found-normal b rt.0 rg.0 rg.1 k.n-low k.n-high in
    let rb = root_bits b in
    let rlo : 2 ^ 52 ≤ rb = le_trans nr.0 (le_of_eq k.is-bits) in
    let rhi : rb < 9218868437227405312 = lt_of_le_of_lt (le_of_eq (sym k.is-bits)) nr.1 in
    let up_to : 1030 * 2 ^ 52 ≤ rb = le_trans (enough b rt.0 lb) (le_of_eq k.is-bits) in
    (units_of rb, pattern-value rb rlo rhi, le_trans (lit≤ tt) (value_grows (1030 * 2 ^ 52) rb (lit≤ tt) up_to))
  where
    before : (x y : ℕ) → x < y → x ≤ y
    before x y h = omega arith

    enough : (b n : ℕ) → 1037 * 2 ^ 52 ≤ b → 1030 * 2 ^ 52 ≤ (b / 2 ^ 52 + 1023) / 2 * 2 ^ 52 + (n - 2 ^ 52)
    enough b n h = omega arith

-- ---- the sequence
-- sums of fractions with the denominator d, which is 2 ^ 1074 where they are used: too large a number for `omega`
v_high : (C n d : ℕ) → C ≤ 2 ^ 31 → n ≤ 2 ^ 60 * d → C * d + n ≤ 2 ^ 61 * d
v_high C n d h k = let l : C * d ≤ 2 ^ 31 * d = mul-le-mul_right d h in omega arith

v_low : (C n d : ℕ) → 20000 ≤ C → 20000 * d ≤ C * d + n
v_low C n d h = let l : 20000 * d ≤ C * d = mul-le-mul_right d h in omega arith

twenty : (n d : ℕ) → 20000 * d ≤ n * 1 → d ≤ n * 2
twenty n d h = omega arith

w-high : (n r d : ℕ) → n ≤ 2 ^ 30 * d → 128 * d ≤ r → n ≤ 2 ^ 23 * r
w-high n r d h k = omega arith

r-pos : (r d : ℕ) → 0 < d → 128 * d ≤ r → 0 < r
r-pos r d h k = omega arith

x-high : (n d : ℕ) → n ≤ 9002801745100800 * d → 1 * d + n * 2 ≤ 9007199254740991 * (2 * d)
x-high n d h = omega arith

x-low : (n d : ℕ) → 1 * (2 * d) ≤ (1 * d + n * 2) * 2
x-low n d = omega arith

under53 : (n d : ℕ) → 0 < d → n ≤ 9007199254740991 * d → n < 9007199254740992 * d
under53 n d p h = omega arith

ones : (n d : ℕ) → 1 * d ≤ n * 2 → d ≤ n * 2
ones n d h = omega arith

swap : (e n d : ℕ) → e ≤ 1073217600 → n ≤ 2 ^ 23 * d → e * n ≤ 9002801745100800 * d
swap e n d h k = le_trans (mul-le-mul h k) (le_of_eq (sym (mul_assoc 1073217600 (2 ^ 23) d)))

module _ (C1 C2 a b e : ℕ) (c1 c2 : Float) (h1 : HasValue c1 false C1 1) (h2 : HasValue c2 false C2 1) (l1 : C1 ≤ 102400) (l2 : 20000 ≤ C2) (u2 : C2 ≤ 2 ^ 31) (A : a ≤ most) (B : b ≤ most) (E : e ≤ most) where
  product-within : Within (mul binary64 (whole a) (whole b)) (2 ^ 60)
  product-within =
      within (mul binary64 (whole a) (whole b)) (a * b) 1 (2 ^ 60) (lit< tt) (held-pow 60 (lit≤ tt)) (le_trans (mul-le-mul A B) (lit≤ tt))
      (mul-whole (whole a) (whole b) a b 1 (lit< tt) (whole_val a (omega arith)) (whole_val b (omega arith)))

  abbrev pub under-root : Float
  under-root = add binary64 c2 (mul binary64 (whole a) (whole b))

  pub record Radicand : Type 0 where
    pub num : ℕ
    pub value : HasValue under-root false num U
    pub at_least : 20000 * U ≤ num
    pub is_normal : T (normal under-root)

  pub radicand : Radicand
  radicand =
      let p = product-within in
      let n = p.num in
      let eq : under-root ≡ R (C2 * U + n) U = add-whole c2 (mul binary64 (whole a) (whole b)) C2 n U U_pos h2 p.value in
      let w : Within under-root (2 ^ 61) = within under-root (C2 * U + n) U (2 ^ 61) U_pos (held-pow 61 (lit≤ tt)) (v_high C2 n U u2 p.most-u) eq in
      let lo : 20000 * U ≤ w.num * 1 = round-low (C2 * U + n) U 20000 1 U_pos (lit< tt) (held_whole 20000 (lit≤ tt)) (high (C2 * U + n) U (2 ^ 61) U_pos (held-pow 61 (lit≤ tt)) (v_high C2 n U u2 p.most-u)).value (le_trans (v_low C2 n U l2) (le_of_eq (sym (mul-one (C2 * U + n))))) in
      record { num = w.num; value = w.value; at_least = le_trans lo (le_of_eq (mul-one w.num)); is_normal = normal-of under-root w.num w.value (twenty w.num U lo) }

  sum-val : HasValue (add binary64 (add binary64 (whole a) (whole b)) c1) false (a + b + C1) 1
  sum-val = add-wholes (add binary64 (whole a) (whole b)) c1 (a + b) C1 (add-wholes (whole a) (whole b) a b (whole_val a (omega arith)) (whole_val b (omega arith)) (omega arith)) h1 (omega arith)

  half-sum : Within (mul binary64 half (add binary64 (add binary64 (whole a) (whole b)) c1)) (2 ^ 30)
  half-sum =
      within (mul binary64 half (add binary64 (add binary64 (whole a) (whole b)) c1)) (1 * (a + b + C1)) (2 * 1) (2 ^ 30) (lit< tt) (held-pow 30 (lit≤ tt)) (omega arith)
      (mul_val binary64 half (add binary64 (add binary64 (whole a) (whole b)) c1) 1 2 (a + b + C1) 1 (lit< tt) (lit< tt) (refl, refl) sum-val)

  abbrev pub W : Float
  W = div binary64 (mul binary64 half (add binary64 (add binary64 (whole a) (whole b)) c1)) (root_of under-root)

  weight-within : Within W (2 ^ 23)
  weight-within =
      let v = radicand in
      let s = half-sum in
      let r = root-val under-root v.num (add-fits binary64 c2 (mul binary64 (whole a) (whole b))) v.is_normal v.value v.at_least in
      let rp : 0 < r.0 = r-pos r.0 U U_pos r.2 in
      within W s.num r.0 (2 ^ 23) rp (held-pow 23 (lit≤ tt)) (w-high s.num r.0 U s.most-u r.2)
      (div-alike (mul binary64 half (add binary64 (add binary64 (whole a) (whole b)) c1)) (root_of under-root) s.num r.0 U U_pos rp s.value r.1)

  abbrev pub X : Float
  X = add binary64 half (mul binary64 (whole e) W)

  -- the value that is truncated, in units of 2 ^ -1074: at least 0.5, and below 2 ^ 53
  pub record TruncatedValue : Type 0 where
    pub num : ℕ
    pub value : HasValue X false num U
    pub half_up : U ≤ num * 2
    pub under : num < 9007199254740992 * U

  pub value-truncated : TruncatedValue
  value-truncated =
      let w = weight-within in
      let eqt : mul binary64 (whole e) W ≡ R (e * w.num) U = mul-whole (whole e) W e w.num U U_pos (whole_val e (omega arith)) w.value in
      let t : Within (mul binary64 (whole e) W) 9002801745100800 =
      within (mul binary64 (whole e) W) (e * w.num) U 9002801745100800 U_pos (held_whole 9002801745100800 (lit≤ tt)) (swap e w.num U E w.most-u) eqt in
      let n = t.num in
      let eqx : X ≡ R (1 * U + n * 2) (2 * U) = add-val binary64 half (mul binary64 (whole e) W) 1 2 n U (lit< tt) U_pos (refl, refl) t.value in
      let x : Within X 9007199254740991 =
      within X (1 * U + n * 2) (2 * U) 9007199254740991 (lit< tt) (held_whole 9007199254740991 (lit≤ tt)) (x-high n U t.most-u) eqx in
      let lo : 1 * U ≤ x.num * 2 = round-low (1 * U + n * 2) (2 * U) 1 2 (lit< tt) (lit< tt) held-half (high (1 * U + n * 2) (2 * U) 9007199254740991 (lit< tt) (held_whole 9007199254740991 (lit≤ tt)) (x-high n U t.most-u)).value (x-low n U) in
      record { num = x.num; value = x.value; half_up = ones x.num U lo; under = under53 x.num U U_pos x.most-u }

  pub truncate-ready : (T (normal X)) × (T (lt X two53))
  truncate-ready = let v = value-truncated in (normal-of X v.num v.value v.half_up, lt-of-value X v.num U 53 U_pos v.value v.under)

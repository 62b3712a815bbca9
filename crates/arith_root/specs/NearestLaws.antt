-- `root_of` is the f64 nearest to the square root: every other f64 is further away.
use Rattle.std.specs.Prelude.{◌≡◌, refl, ℕ, ◌+◌, ◌-◌, ◌*◌, ◌/◌, ◌%◌, ◌^◌, ◌≤◌, ◌<◌, true, T, Float}
use Rattle.std.proofs.Common.{sym, ◌∙◌, inl, inr, le_trans, le_of_eq, lt_of_le_of_lt, lt_of_lt_of_le, not-le_of_lt, mul_assoc, mul-add, add-mul, mul-le-mul, mul-le-mul_left, mul-le-mul_right, mul-lt-mul_of_pos_right, mul-pos, lt_of_mul-lt-mul_right, sub-add_cancel, two-mul, arith, true≢false, lit<, pow-add, pow_pos, pow_mono}
use Rattle.std.proofs.Math.Path.{ap, subst}
use Rattle.std.proofs.Math.Nat.{mul-mul-mul_comm}
use Rattle.std.proofs.Math.Bool.{false}
use Rattle.std.specs.Float.{nan, inf, fin}
use Rattle.std.specs.Float.Ieee.{binary64, fits, of_bits, to_bits}
use Rattle.std.specs.Float.Ieee.Bits.{of_bits-to_bits, of_bits-fits}
use Rattle.std.specs.Float.Ieee.Exact.{HasValue}
use Rattle.cdef_spec.specs.Root.{nearest_whole, root_bits, root_of, plain, IsNearestRoot, RootIsNearest}
use Rattle.arith_root.specs.RootWords.{normal, NearestWhole}
use Rattle.arith_root.specs.PatternLaws.{units_of, pattern-value, pattern-range}
use Rattle.arith_root.specs.NewtonLaws.{below_or_not}
use Rattle.arith_root.specs.RootLaws.{Wide, moved-any, found-range, found, found-normal, nearest-whole, wide_low, wide_high, under128}
use Rattle.arith_root.specs.FloatLaws.{U}
use Rattle.arith_root.specs.UnitLaws.{counted, cross-lt, below_of, above_of}

-- ---- a value of 53 significant bits, at least 2 ^ 52 * 2 ^ k, is a multiple of 2 ^ k
multiple : (n j k : ℕ) → n < 2 ^ 53 → 2 ^ 52 * 2 ^ k ≤ n * 2 ^ j → (q : ℕ) × (n * 2 ^ j ≡ q * 2 ^ k)
multiple n j k s h = elim (below_or_not j k) [
  | inl l ↦ absurd (not-le_of_lt (low l) h)
  | inr g ↦ (n * 2 ^ (j - k), ap (λ (z : ℕ). n * z) (ap (λ (z : ℕ). 2 ^ z) (sym (sub-add_cancel g)) ∙ pow-add 2 (j - k) k) ∙ sym (mul_assoc n (2 ^ (j - k)) (2 ^ k)))
]
  where
    low : j < k → n * 2 ^ j < 2 ^ 52 * 2 ^ k
    low l =
        lt_of_lt_of_le (mul-lt-mul_of_pos_right s (pow_pos j))
        (le_trans (le_of_eq (sym (pow-add 2 53 j))) (le_trans (pow_mono {i = 53 + j} {j = 52 + k} (omega arith)) (le_of_eq (pow-add 2 52 k))))

lt-of-times : (a b u : ℕ) → a * u < b * u → a < b
lt-of-times a b u h = lt_of_mul-lt-mul_right u h

-- ---- the squares of whole numbers
-- with n² < M + n: (2 n - 1)² < 4 M, where q is n - 1 at most
square-below : (M n q K : ℕ) → 0 < K → NearestWhole M n → q + 1 ≤ n → (n * K + q * K) * (n * K + q * K) < 4 * (M * (K * K))
square-below M n q K p w l =
    let s : (n + q) * (n + q) + 4 * n ≤ 4 * (n * n) + 1 = grow n q l in
    let a : n * n < M + n = w.above in
    let t : (n + q) * (n + q) < 4 * M = omega arith in
    lt_of_le_of_lt (le_of_eq (shape n q K)) (lt_of_lt_of_le (mul-lt-mul_of_pos_right t (mul-pos p p)) (le_of_eq (mul_assoc 4 M (K * K))))
  where
    shape : (a b k : ℕ) → (a * k + b * k) * (a * k + b * k) ≡ (a + b) * (a + b) * (k * k)
    shape a b k = ap (λ (z : ℕ). z * z) (sym (add-mul a b k)) ∙ mul-mul-mul_comm (a + b) k (a + b) k

    -- n is q + 1 + d
    grow : (n q : ℕ) → q + 1 ≤ n → (n + q) * (n + q) + 4 * n ≤ 4 * (n * n) + 1
    grow n q l =
        let m : n + q ≤ n + (n - 1) = omega arith in
        le_trans (add-le (mul-le-mul m m)) (le_of_eq (at n (omega arith)))
      where
        add-le : (n + q) * (n + q) ≤ (n + (n - 1)) * (n + (n - 1)) → (n + q) * (n + q) + 4 * n ≤ (n + (n - 1)) * (n + (n - 1)) + 4 * n
        add-le h = omega arith

        at : (n : ℕ) → 1 ≤ n → (n + (n - 1)) * (n + (n - 1)) + 4 * n ≡ 4 * (n * n) + 1
        at n h =
            let k = n - 1 in
            let e : n ≡ k + 1 = omega arith in
            subst (λ (z : ℕ). (z + k) * (z + k) + 4 * z ≡ 4 * (z * z) + 1) (sym e) (plain_at k)
          where
            plain_at : (k : ℕ) → (k + 1 + k) * (k + 1 + k) + 4 * (k + 1) ≡ 4 * ((k + 1) * (k + 1)) + 1
            plain_at k = simp (mul-add, add-mul) (omega arith)

square_above : (M n q K : ℕ) → 0 < K → NearestWhole M n → n + 1 ≤ q → 4 * (M * (K * K)) < (n * K + q * K) * (n * K + q * K)
square_above M n q K p w l =
    let s : (n + (n + 1)) * (n + (n + 1)) ≤ (n + q) * (n + q) = mul-le-mul (omega arith) (omega arith) in
    let e : (n + (n + 1)) * (n + (n + 1)) ≡ 4 * (n * n) + 4 * n + 1 = simp (mul-add, add-mul) (omega arith) in
    let b : M ≤ n * n + n = w.below in
    let t : 4 * M < (n + q) * (n + q) = omega arith in
    lt_of_le_of_lt (le_of_eq (sym (mul_assoc 4 M (K * K)))) (lt_of_lt_of_le (mul-lt-mul_of_pos_right t (mul-pos p p)) (le_of_eq (sym (shape n q K))))
  where
    shape : (a b k : ℕ) → (a * k + b * k) * (a * k + b * k) ≡ (a + b) * (a + b) * (k * k)
    shape a b k = ap (λ (z : ℕ). z * z) (sym (add-mul a b k)) ∙ mul-mul-mul_comm (a + b) k (a + b) k

-- where n is 2 ^ 52, the square root is at least n, since M is at least 2 ^ 104: a value below n is further away whatever its distance
square-edge : (M n K Y : ℕ) → 0 < K → n * n ≤ M → Y < n * K → (n * K + Y) * (n * K + Y) < 4 * (M * (K * K))
square-edge M n K Y p h l =
    let a = n * K + Y in
    let b = n * K + n * K in
    let ab : a < b = omega arith in
    let s : a * b < b * b = mul-lt-mul_of_pos_right ab (omega arith) in
    let t : a * a ≤ a * b = mul-le-mul_left a (omega arith) in
    let e : b * b ≡ 4 * (n * n * (K * K)) = ap (λ (z : ℕ). z * z) (sym (two-mul (n * K))) ∙ mul-mul-mul_comm 2 (n * K) 2 (n * K) ∙ ap (λ (z : ℕ). 4 * z) (mul-mul-mul_comm n K n K) in
    let f : n * n * (K * K) ≤ M * (K * K) = mul-le-mul_right (K * K) h in
    lt_of_le_of_lt t (lt_of_lt_of_le s (le_trans (le_of_eq e) (mul-le-mul_left 4 f)))

-- ---- the numbers of a pattern and of its square root's
root-value : (F n : ℕ) → 2 ^ 52 ≤ n → n < 2 ^ 53 → units_of (F * 2 ^ 52 + (n - 2 ^ 52)) ≡ n * 2 ^ (F - 1)
root-value F n l u =
    let b = F * 2 ^ 52 + (n - 2 ^ 52) in
    let e : b / 2 ^ 52 ≡ F = omega arith in
    let f : 2 ^ 52 + b % 2 ^ 52 ≡ n = omega arith in
    ap (λ (z : ℕ). z * 2 ^ (b / 2 ^ 52 - 1)) f ∙ ap (λ (z : ℕ). n * 2 ^ (z - 1)) e

-- the value of v is M times the square of the square root's unit
squared-unit : (b : ℕ) → 2 ^ 52 ≤ b → units_of b * U ≡ Wide b * (2 ^ ((b / 2 ^ 52 + 1023) / 2 - 1) * 2 ^ ((b / 2 ^ 52 + 1023) / 2 - 1))
squared-unit b l =
    let E = b / 2 ^ 52 in
    let m = 2 ^ 52 + b % 2 ^ 52 in
    let p = 52 + (E + 1) % 2 in
    let k = (E + 1023) / 2 - 1 in
    let e : E - 1 + 1074 ≡ p + (k + k) = omega arith in
    mul_assoc m (2 ^ (E - 1)) U
    ∙ ap (λ (z : ℕ). m * z) (sym (pow-add 2 (E - 1) 1074) ∙ ap (λ (z : ℕ). 2 ^ z) e ∙ pow-add 2 p (k + k) ∙ ap (λ (z : ℕ). 2 ^ p * z) (pow-add 2 k k))
    ∙ sym (mul_assoc m (2 ^ p) (2 ^ k * 2 ^ k))

-- ---- the theorem
value-plain : (x : Float) (a c : ℕ) → HasValue x false a c → T (plain x)
value-plain nan a c h = absurd h
value-plain (inf s) a c h = absurd h
value-plain (fin true m e) a c h = absurd (true≢false h.0)
value-plain (fin false m e) a c h = tt

module _ (v : Float) (F : T (fits binary64 v)) (N : T (normal v)) where
  pub record Facts : Type 0 where
    pub M : ℕ
    pub n : ℕ
    pub k : ℕ
    pub nearest : NearestWhole M n
    pub M-low : 2 ^ 104 ≤ M
    pub n-low : 2 ^ 52 ≤ n
    pub n-high : n < 2 ^ 53
    pub A : ℕ
    pub v-value : HasValue v false A U
    pub r-value : HasValue (root_of v) false (n * 2 ^ k) U
    pub unit : A * U ≡ M * (2 ^ k * 2 ^ k)

  pub facts : Facts
  unfolding root_of
  facts =
      let b = to_bits binary64 v in
      let rg = pattern-range v F N in
      let mv = moved-any b in
      let h = mv.0 in
      let m = mv.1 in
      let M = h * 2 ^ 52 in
      let n = nearest_whole M in
      let p : NearestWhole M n = nearest-whole M (lt_of_lt_of_le (lit< tt) (wide_low h m.low)) (under128 M (wide_high h m.high)) in
      let r = found-range b h n m p in
      let nr = found-normal b n rg.0 rg.1 r.0 r.1 in
      let x = (b / 2 ^ 52 + 1023) / 2 * 2 ^ 52 + (n - 2 ^ 52) in
      let e : x ≡ root_bits b = found b h n m p in
      record {
        M = M;
        n = n;
        k = (b / 2 ^ 52 + 1023) / 2 - 1;
        nearest = p;
        M-low = wide_low h m.low;
        n-low = r.0;
        n-high = r.1;
        A = units_of b;
        v-value = subst (λ (z : Float). HasValue z false (units_of b) U) (of_bits-to_bits binary64 v F) (pattern-value b rg.0 rg.1);
        r-value = subst (λ (z : ℕ). HasValue (of_bits binary64 z) false (n * 2 ^ ((b / 2 ^ 52 + 1023) / 2 - 1)) U) e
            (subst (λ (z : ℕ). HasValue (of_bits binary64 x) false z U) (root-value ((b / 2 ^ 52 + 1023) / 2) n r.0 r.1) (pattern-value x nr.0 nr.1));
        unit = squared-unit b rg.0 ∙ ap (λ (z : ℕ). z * (2 ^ ((b / 2 ^ 52 + 1023) / 2 - 1) * 2 ^ ((b / 2 ^ 52 + 1023) / 2 - 1))) (sym m.wide);
      }

  root-held : T (fits binary64 (root_of v))
  unfolding root_of
  root-held = of_bits-fits binary64 (root_bits (to_bits binary64 v))

  smaller : (M n k Y j c : ℕ) → NearestWhole M n → 2 ^ 104 ≤ M → 2 ^ 52 ≤ n → c < 2 ^ 53 → Y ≡ c * 2 ^ j → Y < n * 2 ^ k → (n * 2 ^ k + Y) * (n * 2 ^ k + Y) < 4 * (M * (2 ^ k * 2 ^ k))
  smaller M n k Y j c w ml nl s e l =
      let K = 2 ^ k in
      elim (below_or_not Y (2 ^ 52 * K)) [
        | inl u ↦
            elim (below_or_not (2 ^ 52) n) [
              | inl g ↦
                  let q : n * K + Y ≤ n * K + 2 ^ 52 * K = omega arith in
                  lt_of_le_of_lt (mul-le-mul q q) (square-below M n (2 ^ 52) K (pow_pos k) w (omega arith))
              | inr g ↦ square-edge M n K Y (pow_pos k) (le_trans (mul-le-mul g g) ml) l
            ]
        | inr g ↦
            let mq = multiple c j k s (le_trans g (le_of_eq e)) in
            let q = mq.0 in
            let f : Y ≡ q * K = e ∙ mq.1 in
            let l' : q < n = lt-of-times q n K (lt_of_le_of_lt (le_of_eq (sym f)) l) in
            subst (λ (z : ℕ). (n * K + z) * (n * K + z) < 4 * (M * (K * K))) (sym f) (square-below M n q K (pow_pos k) w (omega arith))
      ]

  larger : (M n k Y j c : ℕ) → NearestWhole M n → 2 ^ 52 ≤ n → c < 2 ^ 53 → Y ≡ c * 2 ^ j → n * 2 ^ k < Y → 4 * (M * (2 ^ k * 2 ^ k)) < (n * 2 ^ k + Y) * (n * 2 ^ k + Y)
  larger M n k Y j c w nl s e l =
      let K = 2 ^ k in
      let g : 2 ^ 52 * K ≤ n * K = mul-le-mul_right K nl in
      let mq = multiple c j k s (le_trans g (le_trans (omega arith) (le_of_eq e))) in
      let q = mq.0 in
      let f : Y ≡ q * K = e ∙ mq.1 in
      let l' : n < q = lt-of-times n q K (lt_of_lt_of_le l (le_of_eq f)) in
      subst (λ (z : ℕ). 4 * (M * (K * K)) < (n * K + z) * (n * K + z)) (sym f) (square_above M n q K (pow_pos k) w (omega arith))

  pub root-nearest : IsNearestRoot v (root_of v)
  root-nearest =
      let t = facts in
      let P = t.n * 2 ^ t.k in
      record {
        is-an-f64 = root-held;
        finite-plain = value-plain (root_of v) P U t.r-value;
        not-below = λ y fy py l.
            let c = counted y fy py in
            let Y = c.n * 2 ^ c.j in
            below_of v (root_of v) y t.A P Y t.v-value t.r-value c.value
            (subst (λ (z : ℕ). (P + Y) * (P + Y) < 4 * z) (sym t.unit) (smaller t.M t.n t.k Y c.j c.n t.nearest t.M-low t.n-low c.small refl (cross-lt y (root_of v) Y P c.value t.r-value l)));
        not-above = λ y fy py l.
            let c = counted y fy py in
            let Y = c.n * 2 ^ c.j in
            above_of v (root_of v) y t.A P Y t.v-value t.r-value c.value
            (subst (λ (z : ℕ). 4 * z < (P + Y) * (P + Y)) (sym t.unit) (larger t.M t.n t.k Y c.j c.n t.nearest t.n-low c.small refl (cross-lt (root_of v) y P Y t.r-value c.value l)));
      }

pub root-is-nearest : RootIsNearest
root-is-nearest v F N = root-nearest v F N

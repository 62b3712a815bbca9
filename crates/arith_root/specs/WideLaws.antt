-- From t, the integer square root of h, to the whole number nearest to the square root of h * B², with B = 2 ^ 26 (Zimmermann's square root by halves).
use Rattle.std.specs.Prelude.{◌≡◌, refl, ℕ, ◌+◌, ◌-◌, ◌*◌, ◌/◌, ◌%◌, ◌^◌, ◌≤◌, ◌<◌}
use Rattle.std.proofs.Common.{ap, ◌∙◌, lt_of_not-le, not-le_of_lt, add_comm, add_assoc, mul_comm, mul_assoc, mul_left_comm, mul-add, add-mul, mul-le-mul, mul-le-mul_right, div-add-mod', mod-lt, div-lt_iff_lt-mul, arith}
use Rattle.std.proofs.Math.Nat.{add_left_comm}
use Rattle.arith_root.specs.RootWords.{NearestWhole}

-- squares keep the order, both ways
pub lt-of-squares : (a b : ℕ) → a * a < b * b → a < b
lt-of-squares a b h = lt_of_not-le (λ (g : b ≤ a). not-le_of_lt h (mul-le-mul g g))

-- the square root of a number of 53 or 54 bits has 27
pub top-range : (h t : ℕ) → 2 ^ 52 ≤ h → h < 2 ^ 54 → t * t ≤ h → h < (t + 1) * (t + 1) → (2 ^ 26 ≤ t) × (t < 2 ^ 27)
top-range h t lo hi a b =
    let x : 2 ^ 26 < t + 1 = lt-of-squares (2 ^ 26) (t + 1) (omega arith) in
    let y : t < 2 ^ 27 = lt-of-squares t (2 ^ 27) (omega arith) in
    (omega arith, y)

regroup : (t q u B : ℕ) → (t * B + q) * (t * B + q) + u * B ≡ t * t * (B * B) + (q * (t + t) + u) * B + q * q
regroup t q u B = simp (mul-add, add-mul, mul_comm, mul_assoc, mul_left_comm, add_assoc, add_comm, add_left_comm) refl

regroup₂ : (t r B : ℕ) → t * t * (B * B) + r * B * B ≡ (t * t + r) * (B * B)
regroup₂ t r B = simp (mul-add, add-mul, mul_comm, mul_assoc, mul_left_comm, add_assoc, add_comm, add_left_comm) refl

-- s² + u B = h B² + q², with s = t B + q, h = t² + r and r B = q (2 t) + u
step : (h t r q u B : ℕ) → t * t + r ≡ h → q * (t + t) + u ≡ r * B → (t * B + q) * (t * B + q) + u * B ≡ h * (B * B) + q * q
step h t r q u B e f =
    regroup t q u B
    ∙ ap (λ (z : ℕ). t * t * (B * B) + z * B + q * q) f
    ∙ ap (λ (z : ℕ). z + q * q) (regroup₂ t r B ∙ ap (λ (z : ℕ). z * (B * B)) e)

-- what the code's numbers satisfy
pub record Parts (h t q u : ℕ) : Type 0 where
  pub t-low : 2 ^ 26 ≤ t
  pub t-high : t < 2 ^ 27
  pub rest : h - t * t ≤ 2 * t
  pub square : t * t ≤ h
  pub q-high : q ≤ 2 ^ 26
  pub q-square : q * q ≤ 2 ^ 26 * q
  pub u-high : u < 2 * t
  pub equation : (t * 2 ^ 26 + q) * (t * 2 ^ 26 + q) + u * 2 ^ 26 ≡ h * 2 ^ 52 + q * q

pub parts : (h t : ℕ) → 2 ^ 52 ≤ h → h < 2 ^ 54 → t * t ≤ h → h < (t + 1) * (t + 1) → Parts h t ((h - t * t) * 2 ^ 26 / (t * 2)) ((h - t * t) * 2 ^ 26 % (t * 2))
parts h t lo hi a b =
    let rg = top-range h t lo hi a b in
    let n = (h - t * t) * 2 ^ 26 in
    let q = n / (t * 2) in
    let u = n % (t * 2) in
    let sq : (t + 1) * (t + 1) ≡ t * t + (t + t) + 1 = simp (mul-add, add-mul) (omega arith) in
    let rs : h - t * t ≤ 2 * t = omega arith in
    let tp : 0 < t * 2 = omega arith in
    let dm : q * (t * 2) + u ≡ n = div-add-mod' n (t * 2) in
    let ql : q < 2 ^ 26 + 1 = (div-lt_iff_lt-mul tp).1 (omega arith) in
    let ul : u < t * 2 = mod-lt n tp in
    record {
      t-low = rg.0;
      t-high = rg.1;
      rest = rs;
      square = a;
      q-high = omega arith;
      q-square = mul-le-mul_right q (omega arith);
      u-high = omega arith;
      equation = step h t (h - t * t) q u (2 ^ 26) (omega arith) (ap (λ (z : ℕ). q * z + u) (omega arith) ∙ dm);
    }

-- s² grown by one is (s + 1)²
pub up-by-one : (h t q u : ℕ) → Parts h t q u → q * q + (t * 2 ^ 26 + q) < u * 2 ^ 26 → NearestWhole (h * 2 ^ 52) (t * 2 ^ 26 + q + 1)
up-by-one h t q u p l =
    let s = t * 2 ^ 26 + q in
    let sq : (s + 1) * (s + 1) ≡ s * s + (s + s) + 1 = simp (mul-add, add-mul) (omega arith) in
    let e : s * s + u * 2 ^ 26 ≡ h * 2 ^ 52 + q * q = p.equation in
    record { above = omega (arith, p.u-high); below = omega (arith, p.u-high) }

pub stay : (h t q u : ℕ) → Parts h t q u → u * 2 ^ 26 ≤ q * q + (t * 2 ^ 26 + q) → NearestWhole (h * 2 ^ 52) (t * 2 ^ 26 + q)
stay h t q u p l =
    let s = t * 2 ^ 26 + q in
    let e : s * s + u * 2 ^ 26 ≡ h * 2 ^ 52 + q * q = p.equation in
    record { above = omega (arith, p.q-square, p.q-high, p.t-low); below = omega arith }

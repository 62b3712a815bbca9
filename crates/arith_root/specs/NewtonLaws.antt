-- A guess at a square root, and the next: from any guess above 0 the next is at least the square root.
use Rattle.std.specs.Prelude.{◌≡◌, ◌⊎◌, true, false, ◌&&◌, ℕ, ◌+◌, ◌-◌, ◌*◌, ◌/◌, ◌%◌, ◌^◌, ◌≤◌, ◌<◌, T, leb}
use Rattle.std.proofs.Common.{sym, subst, inl, inr, lt_of_lt_of_le, mul_comm, mul-add, add-mul, mul-le-mul, mul-le-mul_left, div-add-mod', div-lt_iff_lt-mul, mod-lt, arith, le-leb, leb→le}
use Rattle.std.proofs.Math.Decide.{dec_lt}
use Rattle.std.proofs.lemmas.Bool.{lt-leb}
use Rattle.std.specs.Float.Ieee.Fits.{and_l, and_r}
use Rattle.arith_root.specs.RootWords.{is_root, guesses_left}

pub below_or_not : (i b : ℕ) → (i < b) ⊎ (b ≤ i)
below_or_not i b = go (dec_lt i b)
  where
    go : Dec (i < b) → (i < b) ⊎ (b ≤ i)
    go (yes h) = inl h
    go (no h) = inr (omega arith)

-- x² + (x + d)² is 2 x (x + d) + d²
pub apart : (x d : ℕ) → x * x + (x + d) * (x + d) ≡ 2 * (x * (x + d)) + d * d
apart x d = let e : d * x ≡ x * d = mul_comm d x in simp (mul-add, add-mul) (omega arith)

-- 2 x y ≤ x² + y²
pub product-low : (x y : ℕ) → 2 * (x * y) ≤ x * x + y * y
product-low x y = elim (below_or_not x y) [ inl l ↦ go x (y - x) (omega arith) | inr h ↦ turn (go y (x - y) (omega arith)) ]
  where
    go : {y : ℕ} (x d : ℕ) → y ≡ x + d → 2 * (x * y) ≤ x * x + y * y
    go x d e = subst (λ (z : ℕ). 2 * (x * z) ≤ x * x + z * z) (sym e) (omega (arith, apart x d))

    turn : 2 * (y * x) ≤ y * y + x * x → 2 * (x * y) ≤ x * x + y * y
    turn h = let e : x * y ≡ y * x = mul_comm x y in omega arith

-- a product is at most the square of a number that is at least half the factors' sum
under-square : (a b s : ℕ) → a + b ≤ 2 * s → a * b ≤ s * s
under-square a b s h =
    let m : (a + b) * (a + b) ≤ 2 * s * (2 * s) = mul-le-mul h h in
    let l : (a + b) * (a + b) ≡ a * a + b * b + 2 * (a * b) = let e : b * a ≡ a * b = mul_comm b a in simp (mul-add, add-mul) (omega arith) in
    let r : 2 * s * (2 * s) ≡ 4 * (s * s) = omega arith in
    omega (arith, product-low a b)

pub next-above : (h g : ℕ) → 0 < g → h < ((g + h / g) / 2 + 1) * ((g + h / g) / 2 + 1)
next-above h g p =
    let q = h / g in
    let d : q * g + h % g ≡ h = div-add-mod' h g in
    let r : h % g < g = mod-lt h p in
    let e : g * (q + 1) ≡ q * g + g = let f : g * q ≡ q * g = mul_comm g q in omega (arith, mul-add g q 1) in
    let l : h < g * (q + 1) = omega arith in
    lt_of_lt_of_le l (under-square g (q + 1) ((g + q) / 2 + 1) (omega arith))

-- ---- guesses at the square root of a number of 53 or 54 bits

-- a guess that has settled is the integer square root
pub root-so : (h g : ℕ) → is_root h g ≡ true → (g * g ≤ h) × (h < (g + 1) * (g + 1))
unfolding is_root
root-so h g e =
    let b : T (leb (g * g) h && leb (h - g * g) (2 * g)) = subst T (sym e) tt in
    let l : g * g ≤ h = leb→le (g * g) h (and_l (leb (g * g) h) (leb (h - g * g) (2 * g)) b) in
    let m : h - g * g ≤ 2 * g = leb→le (h - g * g) (2 * g) (and_r (leb (g * g) h) (leb (h - g * g) (2 * g)) b) in
    let s : (g + 1) * (g + 1) ≡ g * g + 2 * g + 1 = simp (mul-add, add-mul) (omega arith) in
    (l, omega arith)

-- and the integer square root has settled
so-root : (h g : ℕ) → g * g ≤ h → h < (g + 1) * (g + 1) → is_root h g ≡ true
unfolding is_root
so-root h g l m =
    let s : (g + 1) * (g + 1) ≡ g * g + 2 * g + 1 = simp (mul-add, add-mul) (omega arith) in
    rw (le-leb (g * g) h l, le-leb (h - g * g) (2 * g) (omega arith))

left-settled : (h g : ℕ) → is_root h g ≡ true → guesses_left h g ≡ 0
unfolding guesses_left
left-settled h g e = rw e

left_below : (h g : ℕ) → is_root h g ≡ false → g * g ≤ h → guesses_left h g ≡ 2 ^ 29
unfolding guesses_left
left_below h g e l = rw (e, le-leb (g * g) h l)

left-above : (h g : ℕ) → h < g * g → guesses_left h g ≡ g
unfolding guesses_left is_root
left-above h g l = rw (lt-leb (g * g) h l)

module _ (h g : ℕ) (low : 2 ^ 52 ≤ h) (high : h < 2 ^ 54) (gl : 2 ^ 26 ≤ g) (gh : g ≤ 2 ^ 28) where
  pub quotient-low : h / g < 2 ^ 28
  quotient-low =
      let m : 2 ^ 28 * 2 ^ 26 ≤ 2 ^ 28 * g = mul-le-mul_left (2 ^ 28) gl in
      (div-lt_iff_lt-mul {k = g} (omega arith)).1 (omega arith)

  above_root : h < ((g + h / g) / 2 + 1) * ((g + h / g) / 2 + 1)
  above_root = next-above h g (omega arith)

  pub next-range : (2 ^ 26 ≤ (g + h / g) / 2) × ((g + h / g) / 2 ≤ 2 ^ 28)
  next-range = (elim (below_or_not ((g + h / g) / 2) (2 ^ 26)) [ inl l ↦ absurd (too-low l) | inr m ↦ m ], omega (arith, quotient-low))
    where
      too-low : (g + h / g) / 2 < 2 ^ 26 → ⊥
      too-low l =
          let k : (g + h / g) / 2 + 1 ≤ 2 ^ 26 = omega arith in
          let m : ((g + h / g) / 2 + 1) * ((g + h / g) / 2 + 1) ≤ 2 ^ 26 * 2 ^ 26 = mul-le-mul k k in
          omega (arith, above_root)

  -- from a guess that has not settled, below the square root or above it
  pub next-less : is_root h g ≡ false → guesses_left h ((g + h / g) / 2) < guesses_left h g
  next-less e = elim (below_or_not h (g * g)) [
    | inl l ↦
        let q : h / g < g = (div-lt_iff_lt-mul {k = g} (omega arith)).1 l in
        omega (arith, left-above h g l, next-left)
    | inr m ↦ omega (arith, left_below h g e m, next-left, next-range.1)
  ]
    where
      next-left : guesses_left h ((g + h / g) / 2) ≤ (g + h / g) / 2
      next-left = let n = (g + h / g) / 2 in elim (below_or_not h (n * n)) [
        | inl l ↦ omega (arith, left-above h n l)
        | inr m ↦ omega (arith, left-settled h n (so-root h n m above_root))
      ]

-- Sums: one term more, bounds, and of 64 samples row by row; the bound of a squared difference.
use Rattle.std.specs.Prelude.{◌≡◌, refl, Bool, true, false, cond, ℕ, zero, suc, ◌+◌, ◌-◌, ◌*◌, ◌≤◌, ◌<◌, min, max, ltb, pos, negsuc, nat_abs, ◌-ℤ◌}
use Rattle.std.proofs.Common.{sym, ap, ◌∙◌, zero-mul, suc-mul, mul-le-mul, add-one, arith, ltb-true, ltb-false}
use Rattle.std.proofs.Math.IntN.{sub_ℕ}
use Rattle.cdef_spec.specs.Words.{sum, sum2}
use Rattle.cdef_spec.specs.Standard.{square}
use Rattle.cdef_spec.specs.Distance.{squared_difference}

pub sum-none : (f : ℕ → ℕ) → 0 ≡ sum 0 f
unfolding sum
sum-none f = refl

pub sum_more : (f : ℕ → ℕ) (n : ℕ) → sum n f + f n ≡ sum (n + 1) f
unfolding sum
sum_more f n = rw (add-one n)

pub sum-high : (n m : ℕ) (f : ℕ → ℕ) → ((k : ℕ) → k < n → f k ≤ m) → sum n f ≤ n * m
unfolding sum
sum-high zero m f h = omega arith
sum-high (suc n) m f h = omega (arith, sum-high n m f (λ k l. h k (omega arith)), h n (omega arith), suc-mul n m)

-- ---- row by row

sum-join : (a b : ℕ) (f : ℕ → ℕ) → sum (a + b) f ≡ sum a f + sum b (λ k. f (a + k))
unfolding sum
sum-join a zero f = let e : a + 0 ≡ a = omega arith in rw e (omega arith)
sum-join a (suc b) f =
    let e : a + suc b ≡ suc (a + b) = omega arith in
    rw (e, sum-join a b f) (omega arith)

-- rows of c entries
pub sum_rows : (n c : ℕ) (f : ℕ → ℕ) → sum (n * c) f ≡ sum n (λ i. sum c (λ j. f (i * c + j)))
unfolding sum
sum_rows zero c f = ap (λ (m : ℕ). sum m f) (zero-mul c)
sum_rows (suc n) c f = ap (λ (m : ℕ). sum m f) (suc-mul n c) ∙ sum-join (n * c) c f ∙ ap (λ (t : ℕ). t + sum c (λ k. f (n * c + k))) (sum_rows n c f)

pub sum_64 : (f : ℕ → ℕ) → sum 64 f ≡ sum2 8 8 (λ i j. f (i * 8 + j))
unfolding sum2
sum_64 f = sum_rows 8 8 f

-- columns first
sum_both : (n : ℕ) (f g : ℕ → ℕ) → sum n (λ k. f k + g k) ≡ sum n f + sum n g
unfolding sum
sum_both zero f g = refl
sum_both (suc n) f g = omega (arith, sum_both n f g)

sum_zeros : (n : ℕ) → sum n (λ k. 0) ≡ 0
unfolding sum
sum_zeros zero = refl
sum_zeros (suc n) = omega (arith, sum_zeros n)

sum-turned : (n m : ℕ) (f : ℕ → ℕ → ℕ) → sum n (λ i. sum m (λ j. f i j)) ≡ sum m (λ j. sum n (λ i. f i j))
unfolding sum
sum-turned zero m f = sym (sum_zeros m)
sum-turned (suc n) m f = ap (λ (t : ℕ). t + sum m (f n)) (sum-turned n m f) ∙ sym (sum_both m (λ j. sum n (λ i. f i j)) (f n))

pub sum-columns : (f : ℕ → ℕ) → sum 64 f ≡ sum 8 (λ j. sum 8 (λ i. f (i * 8 + j)))
sum-columns f = sum_rows 8 8 f ∙ sum-turned 8 8 (λ i j. f (i * 8 + j))

-- ---- in pairs

pub sum-two : (f : ℕ → ℕ) (k : ℕ) → sum (2 * k) f + (f (2 * k) + f (2 * k + 1)) ≡ sum (2 * (k + 1)) f
sum-two f k =
    let e : 2 * (k + 1) ≡ 2 * k + 1 + 1 = omega arith in
    rw e (omega (arith, sum_more f (2 * k), sum_more f (2 * k + 1)))

-- ---- squared differences

apart : (a b : ℕ) → nat_abs (sub_ℕ a b) ≡ max a b - min a b
apart a b = go (ltb a b) refl
  where
    go : (t : Bool) → ltb a b ≡ t → nat_abs (cond t (negsuc (b - suc a)) (pos (a - b))) ≡ max a b - min a b
    go true e = omega (arith, ltb-true a b e)
    go false e = omega (arith, ltb-false a b e)

difference-size : (a b : ℕ) → nat_abs (pos a -ℤ pos b) ≡ max a b - min a b
difference-size a zero = omega arith
difference-size a (suc b) = apart a (suc b)

pub difference-square : (a b : ℕ) → square (pos a -ℤ pos b) ≡ squared_difference a b
unfolding square squared_difference
difference-square a b = rw (difference-size a b)

pub difference-high : (x y c : ℕ) → x ≤ c → y ≤ c → squared_difference x y ≤ c * c
unfolding squared_difference
difference-high x y c h k = let m : max x y - min x y ≤ c = omega arith in mul-le-mul m m

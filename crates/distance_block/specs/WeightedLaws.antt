-- Laws of the weighted distance of blocks: what its spreads require of the sums (the Cauchy-Schwarz inequality), its bounds, and that it depends on rows and columns only.
use Rattle.std.specs.Prelude.{◌≡◌, List, ℕ, zero, suc, ◌+◌, ◌-◌, ◌*◌, ◌/◌, ◌^◌, ◌≤◌, ◌<◌, min, max, get_or, replicate}
use Rattle.std.proofs.Common.{ap, ◌∙◌, mul_comm, mul-add, add-mul, suc-mul, arith}
use Rattle.std.proofs.Math.Nat.{mul-le-mul}
use Rattle.std.proofs.lemmas.List.{get_or-replicate}
use Rattle.cdef_spec.specs.declared.DistanceConstants.{DistanceConstants}
use Rattle.cdef_spec.specs.Words.{sum}
use Rattle.cdef_spec.specs.WordsLaws.{sum_same, sum2-same}
use Rattle.cdef_spec.specs.Distance.{squared_difference, squares_limit, squares, spread, weighted}
use Rattle.arith_root.specs.NewtonLaws.{product-low}
use Rattle.distance_sums.specs.SumLaws.{sum-high, sum_64, difference-high}
use Rattle.distance_sums.specs.Blocks.{cell, Below, weighted_by}
use Rattle.distance_sums.specs.BlockLaws.{squares-same, squares-64}
use Rattle.distance_weight.specs.Weighing.{OfDepth}
use Rattle.distance_weight.specs.WeighingLaws.{weighted-low}

-- ---- a sum's square

shift : (x n : ℕ) (f : ℕ → ℕ) → 2 * (x * sum n f) ≤ sum n (λ k. f k * f k) + n * (x * x)
unfolding sum
shift x zero f = omega arith
shift x (suc n) f = omega (arith, shift x n f, product-low x (f n), mul-add x (sum n f) (f n), suc-mul n (x * x))

-- a sum's square is at most as many times the sum of squares
cauchy : (n : ℕ) (f : ℕ → ℕ) → sum n f * sum n f ≤ n * sum n (λ k. f k * f k)
unfolding sum
cauchy zero f = omega arith
cauchy (suc n) f =
    let s = sum n f in
    let x = f n in
    let q = sum n (λ k. f k * f k) in
    let a : (s + x) * (s + x) ≡ s * s + 2 * (x * s) + x * x = let e : s * x ≡ x * s = mul_comm s x in simp (mul-add, add-mul) (omega arith) in
    let b : suc n * (q + x * x) ≡ n * q + n * (x * x) + (q + x * x) = suc-mul n (q + x * x) ∙ ap (λ (z : ℕ). z + (q + x * x)) (mul-add n q (x * x)) in
    omega (arith, cauchy n f, shift x n f)

-- ---- the spread of 64 samples

less_zero : (x : ℕ) → squared_difference x 0 ≡ x * x
unfolding squared_difference
less_zero x = let e : max x 0 - min x 0 ≡ x = omega arith in rw e

pub zeros-below : Below (replicate 64 0) 4096
zeros-below = record { each = λ k h. rw (get_or-replicate {A = ℕ} 64 k 0 0 h) (omega arith) }

module _ (a : List ℕ) where
  abbrev A : ℕ → ℕ
  A k = get_or a k 0

  from-zeros : sum 64 (λ k. squared_difference (A k) (get_or (replicate 64 0) k 0)) ≡ sum 64 (λ k. A k * A k)
  from-zeros = sum_same 64 _ _ (λ k h. rw (get_or-replicate {A = ℕ} 64 k 0 0 h) (less_zero (A k)))

  -- the sums, as the code computes them
  module _ (none : List ℕ) (s s2 : ℕ) (z : none ≡ replicate 64 0) (e : s ≡ sum 64 A) (f : s2 ≡ sum 64 (λ k. squared_difference (A k) (get_or none k 0))) where
    pub square-low : s * s ≤ 64 * s2
    square-low = rw (e, f, z, from-zeros) (cauchy 64 A)

    pub spread-is : s2 - (s * s + 32) / 64 ≡ spread (cell a)
    unfolding spread cell
    spread-is = rw (e, f, z, from-zeros, sum_64 (λ k. A k * A k), sum_64 A)

  module _ (depth : ℕ) (h : Below a (2 ^ depth)) where
    own-low : (k : ℕ) → k < 64 → A k ≤ 2 ^ depth - 1
    own-low k l = omega (arith, h.each k l)

    own-high : sum 64 (λ k. A k * A k) ≤ squares_limit depth
    unfolding squares_limit
    own-high = sum-high 64 ((2 ^ depth - 1) * (2 ^ depth - 1)) _ (λ k l. mul-le-mul (own-low k l) (own-low k l))

    pub spread-high : spread (cell a) ≤ squares_limit depth
    unfolding spread cell
    spread-high = omega (arith, own-high, sum_64 (λ k. A k * A k))

    pub squares-high : (b : List ℕ) → Below b (2 ^ depth) → squares 8 8 (cell a) (cell b) ≤ squares_limit depth
    unfolding squares_limit
    squares-high b g = rw (← squares-64 a b) (sum-high 64 ((2 ^ depth - 1) * (2 ^ depth - 1)) _ (λ k l. difference-high (A k) (get_or b k 0) (2 ^ depth - 1) (own-low k l) (omega (arith, g.each k l))))

-- ---- the weighted distance depends on rows and columns only

pub spread_same : (o p : ℕ → ℕ → ℕ) → ((i j : ℕ) → i < 8 → j < 8 → o i j ≡ p i j) → spread o ≡ spread p
unfolding spread
spread_same o p h = rw (sum2-same 8 8 (λ i j. o i j * o i j) (λ i j. p i j * p i j) (λ i j hi hj. rw (h i j hi hj)), sum2-same 8 8 o p h)

pub weighted-same : (c : DistanceConstants) (o p d e : ℕ → ℕ → ℕ) → ((i j : ℕ) → i < 8 → j < 8 → o i j ≡ p i j) → ((i j : ℕ) → i < 8 → j < 8 → d i j ≡ e i j) → weighted_by c o d ≡ weighted_by c p e
unfolding weighted_by
weighted-same c o p d e h g = rw (spread_same o p h, spread_same d e g, squares-same 8 8 o p d e h g)

-- ---- of 64 samples

pub weighted-64 : (c : DistanceConstants) (a b : List ℕ) (x y e r : ℕ) → x ≡ spread (cell a) → y ≡ spread (cell b) → e ≡ sum 64 (λ k. squared_difference (get_or a k 0) (get_or b k 0)) → r ≡ weighted c x y e → r ≡ weighted_by c (cell a) (cell b)
unfolding weighted_by
weighted-64 c a b x y e r ex ey ee er = er ∙ rw (ex, ey, ee, squares-64 a b)

pub weighted-64-low : (c : DistanceConstants) (depth : ℕ) (a b : List ℕ) → OfDepth c depth → Below a (2 ^ depth) → Below b (2 ^ depth) → weighted_by c (cell a) (cell b) < 2 ^ 53
unfolding weighted_by
weighted-64-low c depth a b o x y = weighted-low c depth _ _ _ o (spread-high a depth x) (spread-high b depth y) (squares-high a depth x b y)

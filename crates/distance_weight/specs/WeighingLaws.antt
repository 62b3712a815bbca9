-- The constants and the limit of a depth, as the laws of the sequence require them; 0.5; and the weighted distance stays below 2 ^ 53.
use Rattle.std.specs.Prelude.{◌≡◌, refl, false, ℕ, ◌-◌, ◌*◌, ◌/◌, ◌^◌, ◌≤◌, ◌<◌, pos, T, Float}
use Rattle.std.proofs.Common.{sym, ap, subst, le_of_eq, lt_of_le_of_lt, lt_of_lt_of_le, mul-le-mul, mul-le-mul_left, div-lt_iff_lt-mul, arith, le→leb, lit≤, pow_mono, pow_pos}
use Rattle.std.specs.Float.{binary64}
use Rattle.std.specs.Float.Ieee.{in_float, of_bits}
use Rattle.std.specs.Float.Ieee.Exact.{HasValue}
use Rattle.cdef_spec.specs.declared.DistanceConstants.{DistanceConstants}
use Rattle.cdef_spec.specs.Distance.{half, constants_of, squares_limit, weight, weighted}
use Rattle.distance_weight.specs.Weighing.{OfDepth, most, times_of}
use Rattle.arith_root.specs.FloatLaws.{U, U_pos}
use Rattle.arith_root.specs.TruncateLaws.{truncated-value}
use Rattle.distance_weight.specs.SequenceLaws.{whole_val, X, value-truncated}

pub in-float : (n : ℕ) → n ≤ 2 ^ 53 → T (in_float binary64 (pos n))
unfolding in_float
in-float n h = le→leb n (2 ^ 53) h

-- 400 << 2k and 20000 << 4k
pub first_small : (k : ℕ) → k ≤ 4 → 400 * 2 ^ (2 * k) ≤ 102400
first_small k h = mul-le-mul_left 400 (pow_mono {i = 2 * k} {j = 8} (omega arith))

pub second-small : (k : ℕ) → k ≤ 4 → 20000 * 2 ^ (4 * k) ≤ 1310720000
second-small k h = mul-le-mul_left 20000 (pow_mono {i = 4 * k} {j = 16} (omega arith))

pub record Bounds (c : DistanceConstants) : Type 0 where
  pub C1 : ℕ
  pub C2 : ℕ
  pub h1 : HasValue c.c1 false C1 1
  pub h2 : HasValue c.c2 false C2 1
  pub l1 : C1 ≤ 102400
  pub l2 : 20000 ≤ C2
  pub u2 : C2 ≤ 2 ^ 31

pub bounds : (c : DistanceConstants) (depth : ℕ) → OfDepth c depth → Bounds c
unfolding constants_of
bounds c depth o =
    let k = depth - 8 in
    let d : k ≤ 4 = omega (arith, o.flat) in
    let s1 = first_small k d in
    let s2 = second-small k d in
    record {
      C1 = 400 * 2 ^ (2 * k);
      C2 = 20000 * 2 ^ (4 * k);
      h1 = subst (λ (z : DistanceConstants). HasValue z.c1 false (400 * 2 ^ (2 * k)) 1) (sym o.is) (whole_val (400 * 2 ^ (2 * k)) (omega arith));
      h2 = subst (λ (z : DistanceConstants). HasValue z.c2 false (20000 * 2 ^ (4 * k)) 1) (sym o.is) (whole_val (20000 * 2 ^ (4 * k)) (omega arith));
      l1 = s1;
      l2 = mul-le-mul_left 20000 (pow_pos (4 * k));
      u2 = omega arith;
    }

pub limit-most : (depth : ℕ) → depth ≤ 12 → squares_limit depth ≤ most
unfolding squares_limit
limit-most depth h =
    let p : 2 ^ depth ≤ 2 ^ 12 = pow_mono {i = depth} {j = 12} h in
    let x : 2 ^ depth - 1 ≤ 4095 = omega arith in
    mul-le-mul_left 64 (mul-le-mul x x)

-- the code writes the literal by its bits
pub half_is : of_bits binary64 0x3fe0_0000_0000_0000 ≡ half
unfolding of_bits
half_is = refl

pub times-weight : (c : DistanceConstants) (a b e : ℕ) (w : Float) → w ≡ weight c a b → times_of e w ≡ weighted c a b e
unfolding times_of weighted
times-weight c a b e w h = ap (times_of e) h

-- a weighted distance is below 2 ^ 53
pub weighted-low : (c : DistanceConstants) (depth a b e : ℕ) → OfDepth c depth → a ≤ squares_limit depth → b ≤ squares_limit depth → e ≤ squares_limit depth → weighted c a b e < 2 ^ 53
unfolding weighted weight
weighted-low c depth a b e o A B E =
    let m = limit-most depth o.flat in
    let k = bounds c depth o in
    let A' : a ≤ most = omega arith in
    let B' : b ≤ most = omega arith in
    let E' : e ≤ most = omega arith in
    let v = value-truncated k.C1 k.C2 a b e c.c1 c.c2 k.h1 k.h2 k.l1 k.l2 k.u2 A' B' E' in
    let q : v.num / U < 2 ^ 53 = (div-lt_iff_lt-mul U_pos).1 v.under in
    let x = X k.C1 k.C2 a b e c.c1 c.c2 k.h1 k.h2 k.l1 k.l2 k.u2 A' B' E' in
    lt_of_le_of_lt (le_of_eq (truncated-value x v.num U U_pos v.value (lt_of_lt_of_le q (lit≤ tt)))) q
